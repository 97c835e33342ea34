use mathlib.Core.Path.{sym, ◌∙◌}
use Rattle.calendar.proofs.Steps.{back_last, back_more, back_idle, back_end}
use Rattle.calendar.proofs.days.business_day_before.Goals as goal

pub returns-then-to_count-le1 : goal.returns-then-to_count-le1
returns-then-to_count-le1 c =
    λ y. sym (back_last _ _ _ c.loop-x-test.true (sym (c.is_business_day.ensures y) ∙ c.if-is_business_day.true) c.if-to_count-le1.true) ∙ c.loop-x.invariant y

pub loop-x-preserved-then-is_business_day : goal.loop-x-preserved-then-is_business_day
loop-x-preserved-then-is_business_day c =
    λ y. sym (back_more _ _ _ c.loop-x-test.true (sym (c.is_business_day.ensures y) ∙ c.if-is_business_day.true) c.if-to_count-le1.false) ∙ c.loop-x.invariant y

pub loop-x-preserved : goal.loop-x-preserved
loop-x-preserved c = λ y. sym (back_idle _ _ _ c.loop-x-test.true (sym (c.is_business_day.ensures y) ∙ c.if-is_business_day.false)) ∙ c.loop-x.invariant y

pub returns : goal.returns
returns c = λ y. sym (back_end _ _ _ c.loop-x-test.false) ∙ c.loop-x.invariant y
