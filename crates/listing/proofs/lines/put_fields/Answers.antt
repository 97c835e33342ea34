use native.Mathlib.Omega.{arith}
use Rattle.arith.proofs.Tests.{asked_true, asked_false}
use Rattle.listing.proofs.Goings.{going_start, going_next, going_fault, going_end}
use Rattle.listing.proofs.lines.put_fields.Goals as goal

pub loop-i-init : goal.loop-i-init
loop-i-init c = going_start _ _ _ _ _ (omega arith)

pub verdict_of-requires : goal.verdict_of-requires
verdict_of-requires c = (c.loop-i.invariant.inside, omega arith)

pub put_fault-requires : goal.put_fault-requires
put_fault-requires c = (
  omega (arith, c.loop-i.invariant.wrote.short, c.loop-i.invariant.same),
  c.loop-i.invariant.inside,
  omega arith,
  omega arith,
)

pub shape_of-out-then-not-does_pass : goal.shape_of-out-then-not-does_pass
shape_of-out-then-not-does_pass c = omega (arith, c.loop-i.invariant.same, c.put_fault.auto.out)

pub returns-then-not-does_pass : goal.returns-then-not-does_pass
returns-then-not-does_pass c =
    let e = rw c.verdict_of.ensures at
    (asked_false c.does_pass.ensures c.if-not-does_pass.true) in
    going_fault _ _ _ _ _ c.loop-i.invariant _ (omega arith)
    c.field_at-field.ensures _ e (omega arith) (omega arith) c.put_fault.ensures

pub number_at-requires : goal.number_at-requires
number_at-requires c = omega (arith, c.loop-i.invariant.inside)

pub put_quantity-end-requires : goal.put_quantity-end-requires
put_quantity-end-requires c = (
  omega (
    arith,
    c.loop-i.invariant.wrote.short,
    c.loop-i.invariant.same,
  ),
  omega arith,
  c.number_at.ensures.1,
)

pub overflow_add-place : goal.overflow_add-place
overflow_add-place c = omega (
  arith,
  c.width_of-size.ensures.1,
  c.loop-i.invariant.inside,
)

pub loop-i-preserved : goal.loop-i-preserved
loop-i-preserved c =
    let e = rw c.verdict_of.ensures at
    (asked_true c.does_pass.ensures c.if-not-does_pass.false) in
    rw c.width_of-size.ensures.0
    (going_next _ _ _ _ _ c.loop-i.invariant _ (omega arith)
    c.field_at-field.ensures e (omega arith) (omega (arith, c.put_quantity-end.auto.out))
    (rw (c.number_at.ensures.0, c.width_of-size.ensures.0) at c.put_quantity-end.ensures))

pub shape_of-out : goal.shape_of-out
shape_of-out c = c.loop-i.invariant.same

pub returns : goal.returns
returns c = going_end _ _ _ _ _ c.loop-i.invariant _ (omega arith) (omega (arith, c.loop-i.invariant.few))

pub field_at-field-requires : goal.field_at-field-requires
field_at-field-requires c = omega arith
