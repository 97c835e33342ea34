use Rattle.std.proofs.lemmas.Result.{err_from_is_err_and}
use mathlib.Core.Path.{refl}
use Rattle.journal_program.specs.Runs.{read}
use Rattle.journal_program.proofs.Ending.{ends_failed}
use Rattle.streams.proofs.Reading.{read_moved, read_within}
use Rattle.journal_program.proofs.shell.read_on.Goals as goal

pub returns : goal.returns
returns g c =
    let pre = c.requires in
    let is = c.in_ok-window.was in (
      (record { within = read_within _ _ _ _ c.read_more.ensures pre.1 is; counts = pre.0.counts; few = pre.0.few }, refl),
      (refl, read pre.3 (read_moved _ _ _ _ c.read_more.ensures is)),
    )

pub returns-in_err-window : goal.returns-in_err-window
returns-in_err-window g c =
    let p = err_from_is_err_and c.from_residual.result c.from_residual.ensures.1 in
    rw (p.1, p.2) (tt, ends_failed _ _ c.in_err-window.ensures)
