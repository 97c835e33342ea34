use mathlib.Core.Bool.{cond}
use native.Mathlib.Omega.{arith}
use mathlib.Core.Path.{◌≡◌, sym, ap, ◌∙◌}
use lib.ListN.{length, get_or}
use Rattle.tables.specs.Fit.{orders_in}
use Rattle.order_book.specs.Left.{staying}
use Rattle.order_book.proofs.Left.{staying_length, staying_at}
use Rattle.arith.proofs.Writes.{front_next, front_end}
use Rattle.order_book.proofs.leaving.write_left.Goals as goal

pub loop-i-preserved : goal.loop-i-preserved
loop-i-preserved g c =
    λ p tests.
    let a = c.args in
    let n = length a.left.now in
    let all = staying p (orders_in n a.book.now) in
    let o = c.order_at-o.result in
    let here : c.left_of.result.0 ≡ get_or all c.loop-i.i 0
    = c.left_of.ensures ∙ ap (λ b. cond b 0 o.lots.0) (tests o c.leaves.result c.leaves.ensures) ∙ ap (λ x. cond (p x) 0 x.lots.0) c.order_at-o.ensures
    ∙ sym (staying_at p n a.book.now c.loop-i.i (omega arith)) in
    rw (here, c.loop-i.invariant p tests)
    (front_next c.loop-i.i all a.left.now 0 (omega (arith, staying_length p n a.book.now)) (omega arith))

pub returns : goal.returns
returns g c =
    λ p tests.
    let a = c.args in
    let n = length a.left.now in
    c.loop-i.invariant p tests ∙ front_end c.loop-i.i (staying p (orders_in n a.book.now)) a.left.now (omega (arith, staying_length p n a.book.now)) (omega arith)
