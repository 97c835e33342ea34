use mathlib.Core.Path.{sym, ◌∙◌}
use Rattle.calendar.proofs.Steps.{next_here, next_more, next_end}
use Rattle.calendar.proofs.days.first_business_day.Goals as goal

pub returns-then-is_business_day : goal.returns-then-is_business_day
returns-then-is_business_day c = λ y. sym (next_here _ _ _ c.loop-x-test.true (sym (c.is_business_day.ensures y) ∙ c.if-is_business_day.true)) ∙ c.loop-x.invariant y

pub loop-x-preserved : goal.loop-x-preserved
loop-x-preserved c = λ y. next_more _ _ _ c.loop-x-test.true (sym (c.is_business_day.ensures y) ∙ c.if-is_business_day.false) ∙ c.loop-x.invariant y

pub returns : goal.returns
returns c = λ y. sym (next_end _ _ _ c.loop-x-test.false) ∙ c.loop-x.invariant y
