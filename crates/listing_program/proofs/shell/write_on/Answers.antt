use Rattle.std.proofs.lemmas.Result.{err_from_is_err_and}
use mathlib.Core.Bool.{false}
use mathlib.Core.Path.{refl}
use Rattle.streams.proofs.Reading.{written_moved, written_within}
use Rattle.listing_program.proofs.shell.write_on.Goals as goal

pub returns : goal.returns
returns g c =
    let s = c.requires.0 in
    ((record { within = written_within _ _ c.write_out.ensures s.within c.in_ok-window.was; counted = s.counted; passed = s.passed; few = s.few }, refl), (written_moved _ _ c.write_out.ensures c.in_ok-window.was, record { records_same = refl; base_same = refl }))

pub returns-in_err-window : goal.returns-in_err-window
returns-in_err-window g c =
    let p = err_from_is_err_and c.from_residual.result c.from_residual.ensures.1 in
    rw (p.1, p.2) (tt, (false, c.in_err-window.ensures))
