use lib.IntN.{pos}
use Rattle.rules.specs.Ledger.{rows_length}
use Rattle.journal_program.proofs.Running.{journal_ran, on_rows, zero_rows_lem}
use Rattle.journal_program.proofs.shell.run.Goals as goal

pub returns : goal.returns
returns g c = on_rows (zero_rows_lem rows_length (pos 0)) (zero_rows_lem rows_length (pos 0)) (journal_ran c.run_turns.ensures.ran)
