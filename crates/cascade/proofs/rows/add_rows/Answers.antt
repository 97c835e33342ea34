use mathlib.Core.Path.{◌≡◌, refl, sym, ◌∙◌, ap}
use mathlib.Core.List.{zip_with}
use native.Mathlib.Omega.{arith}
use lib.ListN.{get_or, set, length-set}
use lib.IntN.{pos, ◌+ℤ◌}
use Rattle.arith.proofs.Overs.{zip_at}
use Rattle.arith.proofs.Signed.{add_ok, add_is}
use Rattle.arith.proofs.Writes.{front_next, front_end}
use Rattle.cascade.proofs.Cascades.{zip_short, front_rest}
use Rattle.cascade.proofs.rows.add_rows.Goals as goal

pub loop-i-init : goal.loop-i-init
loop-i-init c = (refl, refl)

pub overflow_add-child : goal.overflow_add-child
overflow_add-child c =
    let a = c.args in
    let sums = zip_with ◌+ℤ◌ a.child.now a.parent in
    let many = zip_short ◌+ℤ◌ a.child.now a.parent (omega arith) in
    let e : get_or c.loop-i.child c.loop-i.i (pos 0) ≡ get_or a.child.now c.loop-i.i (pos 0) = rw c.loop-i.invariant.1 (front_rest c.loop-i.i sums a.child.now (pos 0) (omega arith)) in
    add_ok (get_or c.loop-i.child c.loop-i.i (pos 0)) (get_or a.parent c.loop-i.i (pos 0)) (rw e (c.requires.by_index c.loop-i.i (omega arith)))

pub loop-i-preserved : goal.loop-i-preserved
loop-i-preserved c =
    let pre = c.requires in
    let a = c.args in
    let x = get_or c.loop-i.child c.loop-i.i (pos 0) in
    let y = get_or a.parent c.loop-i.i (pos 0) in
    let sums = zip_with ◌+ℤ◌ a.child.now a.parent in
    let many = zip_short ◌+ℤ◌ a.child.now a.parent (omega arith) in
    let e : x ≡ get_or a.child.now c.loop-i.i (pos 0) = rw c.loop-i.invariant.1 (front_rest c.loop-i.i sums a.child.now (pos 0) (omega arith)) in
    let here = add_is x y (rw e (pre.by_index c.loop-i.i (omega arith))) ∙ ap (λ v. v +ℤ y) e ∙ sym (zip_at ◌+ℤ◌ a.child.now a.parent c.loop-i.i (pos 0) (omega arith) (omega arith)) in (
      simp length-set (omega arith),
      ap (set c.loop-i.child c.loop-i.i) here ∙ ap (λ r. set r c.loop-i.i (get_or sums c.loop-i.i (pos 0))) c.loop-i.invariant.1 ∙ front_next c.loop-i.i sums a.child.now (pos 0) (omega arith) (omega arith),
    )

pub returns : goal.returns
returns c =
    let a = c.args in
    let many = zip_short ◌+ℤ◌ a.child.now a.parent (omega arith) in
    c.loop-i.invariant.1 ∙ front_end c.loop-i.i (zip_with ◌+ℤ◌ a.child.now a.parent) a.child.now (omega arith) (omega arith)
