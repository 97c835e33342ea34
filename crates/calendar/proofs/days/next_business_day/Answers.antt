use mathlib.Core.Path.{sym, ◌∙◌}
use Rattle.calendar.proofs.Steps.{next_past, next_start}
use Rattle.calendar.proofs.days.next_business_day.Goals as goal

pub returns-then-span-day : goal.returns-then-span-day
returns-then-span-day c = sym (next_past _ _ (rw (c.span_of-span.ensures c.args.holidays.now).ends at c.if-span-day.true))

pub returns : goal.returns
returns c =
    let a = c.args in
    rw (c.span_of-span.ensures a.holidays.now).ends at (c.first_business_day.ensures a.first_year) ∙ next_start _ _
