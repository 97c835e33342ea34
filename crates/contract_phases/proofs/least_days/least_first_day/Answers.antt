use Prim.Native.Nat.{◌-◌}
use mathlib.Core.Path.{◌≡◌, sym, ◌∙◌}
use native.Mathlib.Omega.{arith}
use Rattle.contract_phases.proofs.Least.{none_to_count, idle_day, counted_day, nth_day}
use Rattle.contract_phases.proofs.least_days.least_first_day.Goals as goal
use Rattle.contract_phases.proofs.least_days.least_first_day.Goals.{then-is_business_day+else-to_count-le1, else-is_business_day}

pub returns-then-to_count-le1 : goal.returns-then-to_count-le1
returns-then-to_count-le1 c =
    λ y. sym (nth_day _ _ _ c.loop-x.to_count c.loop-x.x (omega arith) (sym (c.is_business_day.ensures y) ∙ c.if-is_business_day.true) (omega arith)) ∙ c.loop-x.invariant.1 y

pub loop-x-preserved : goal.loop-x-preserved
loop-x-preserved c =
    let day = c.is_business_day.ensures in
    elim c.if-is_business_day.branch [
      | then-is_business_day+else-to_count-le1 w ↦ (let less : c.if-is_business_day.to_count ≡ c.loop-x.to_count - 1 = omega arith in
          (omega arith, λ y. rw less (sym (counted_day _ _ _ c.loop-x.to_count c.loop-x.x (omega arith) (sym (day y) ∙ w.if-is_business_day.true) (omega arith)) ∙ c.loop-x.invariant.1 y)))
      | else-is_business_day w ↦ (let same : c.if-is_business_day.to_count ≡ c.loop-x.to_count = omega arith in
          (omega arith, λ y. rw same (sym (idle_day _ _ _ c.loop-x.to_count c.loop-x.x (omega arith) (sym (day y) ∙ w.if-is_business_day.false)) ∙ c.loop-x.invariant.1 y)))
    ]

pub returns : goal.returns
returns c = λ y. sym (none_to_count _ _ _ c.loop-x.to_count c.loop-x.x (omega arith)) ∙ c.loop-x.invariant.1 y
