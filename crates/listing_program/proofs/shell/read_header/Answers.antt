use Rattle.std.proofs.Common.{◌∙◌}
use Rattle.std.proofs.lemmas.Result.{err_from_is_err_and}
use Rattle.streams.proofs.Reading.{read_within}
use Rattle.listing_program.proofs.shell.read_header.Goals as goal

pub loop-preserved : goal.loop-preserved
loop-preserved g c =
    let w = c.loop.invariant in
    (read_within _ _ _ _ c.read_more.ensures w.1 c.in_ok-window.was, c.read_more.auto.input ∙ w.1)

pub returns-in_err-window : goal.returns-in_err-window
returns-in_err-window g c =
    let p = err_from_is_err_and c.from_residual.result c.from_residual.ensures.1 in
    rw (p.1, p.2) (tt, c.in_err-window.ensures)
