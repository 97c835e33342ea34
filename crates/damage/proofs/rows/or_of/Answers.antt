use Rattle.std.proofs.Common.{◌^◌, ◌<◌, ltb, get_or, pos, arith}
use Rattle.arith.specs.Bits.{in_window}
use Rattle.arith.proofs.Bits.{or_window, none_below}
use lib.Signed.{mag}
use Rattle.arith.proofs.Signed.{back_mag}
use Rattle.arith.proofs.Scans.{every_next, every_end}
use Rattle.damage.proofs.rows.or_of.Goals as goal

pub loop-x-init : goal.loop-x-init
loop-x-init c = λ k h. rw (none_below k)

pub loop-x-preserved : goal.loop-x-preserved
loop-x-preserved c =
    let a = c.args in
    let x = get_or a.rows.now c.loop-x.x-index (pos 0) in
    let fits : mag x < 2 ^ 63 = omega arith in
    λ k h. rw (or_window k c.loop-x.seen c.raised-seen.result a.half x h fits (rw (back_mag x fits) at c.raised-seen.ensures))
    (every_next (in_window (2 ^ k)) a.rows.now (pos 0) c.loop-x.x-index (ltb c.loop-x.seen (2 ^ k)) (c.loop-x.invariant k h) c.loop-x-test.true)

pub returns : goal.returns
returns c =
    let a = c.args in
    λ k h. every_end (in_window (2 ^ k)) a.rows.now (pos 0) c.loop-x.x-index (ltb c.loop-x.seen (2 ^ k)) (c.loop-x.invariant k h) c.loop-x-test.false
