use borrow.Author.Rules.{rules}
use Rattle.journal_program.proofs.shell.journal_run.Goals as goal

pub returns : goal.returns
returns g c = (c.run.result, search rules, c.run.ensures)
