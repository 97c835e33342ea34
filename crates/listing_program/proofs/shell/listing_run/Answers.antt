use borrow.Author.Rules.{rules}
use Rattle.listing_program.proofs.shell.listing_run.Goals as goal

pub returns : goal.returns
returns g c = (c.run.result, c.run.ensures.0, search rules, c.run.ensures.1)
