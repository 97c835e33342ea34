use Rattle.std.proofs.lemmas.Result.{err_from_is_err_and}
use mathlib.Core.Path.{refl}
use Rattle.journal_program.specs.Runs.{wrote}
use Rattle.journal_program.proofs.Ending.{ends_unwritten}
use Rattle.streams.proofs.Reading.{written_moved, written_within}
use Rattle.journal_program.proofs.shell.write_on.Goals as goal

pub returns : goal.returns
returns g c =
    let s = c.requires.0 in
    let is = c.in_ok-window.was in (
      (record { within = written_within _ _ c.write_out.ensures s.within is; counts = s.counts; few = s.few }, refl),
      λ input. (refl, wrote (written_moved _ _ c.write_out.ensures is) refl),
    )

pub returns-in_err-window : goal.returns-in_err-window
returns-in_err-window g c =
    let p = err_from_is_err_and c.from_residual.result c.from_residual.ensures.1 in
    rw (p.1, p.2) (tt, λ input. ends_unwritten _ _ c.in_err-window.ensures)
