use borrow.Author.Tests.{eq-eqb, ne_eqb}
use Rattle.rules.specs.Days.{business_day}
use Rattle.calendar.proofs.days.is_business_day.Goals as goal

pub returns-then-weekday-eq-SATURDAY : goal.returns-then-weekday-eq-SATURDAY
unfolding business_day
returns-then-weekday-eq-SATURDAY c = λ y. search (eq-eqb, ne_eqb)

pub returns-then-weekday-eq-SUNDAY : goal.returns-then-weekday-eq-SUNDAY
unfolding business_day
returns-then-weekday-eq-SUNDAY c = λ y. search (eq-eqb, ne_eqb)

pub returns : goal.returns
unfolding business_day
returns c = λ y. search (eq-eqb, ne_eqb, c.is_holiday.ensures)
