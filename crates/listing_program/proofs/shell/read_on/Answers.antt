use Rattle.std.proofs.lemmas.Result.{err_from_is_err_and}
use mathlib.Core.Path.{refl}
use Rattle.streams.proofs.Reading.{read_moved, read_within}
use Rattle.listing_program.proofs.shell.read_on.Goals as goal

pub returns : goal.returns
returns g c =
    let pre = c.requires in
    ((record { within = read_within _ _ _ _ c.read_more.ensures pre.1 c.in_ok-window.was; counted = pre.0.counted; passed = pre.0.passed; few = pre.0.few }, refl), (read_moved _ _ _ _ c.read_more.ensures c.in_ok-window.was, record { records_same = refl; base_same = refl }))

pub returns-in_err-window : goal.returns-in_err-window
returns-in_err-window g c =
    let p = err_from_is_err_and c.from_residual.result c.from_residual.ensures.1 in
    rw (p.1, p.2) (tt, c.in_err-window.ensures)
