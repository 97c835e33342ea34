use native.Mathlib.Omega.{arith}
use mathlib.Core.Path.{sym, ap, ◌∙◌}
use lib.ListN.{length}
use Rattle.arith.proofs.Writes.{front_next, front_end}
use Rattle.proposal.specs.Booking.{order_lots}
use Rattle.proposal.proofs.Taken.{lots_length, lots_at_lem}
use Rattle.proposal.proofs.booking.write_lots.Goals as goal

pub loop-i-preserved : goal.loop-i-preserved
loop-i-preserved c =
    let a = c.args in
    let n = length a.left.now in
    let here = ap (λ o. o.lots.0) c.order_at.ensures ∙ sym (lots_at_lem n a.book.now c.loop-i.i (omega arith)) in
    rw (here, c.loop-i.invariant) (front_next c.loop-i.i (order_lots n a.book.now) a.left.now 0 (omega (arith, lots_length n a.book.now)) (omega arith))

pub returns : goal.returns
returns c =
    let a = c.args in
    let n = length a.left.now in
    c.loop-i.invariant ∙ front_end c.loop-i.i (order_lots n a.book.now) a.left.now (omega (arith, lots_length n a.book.now)) (omega arith)
