use mathlib.Core.Path.{◌≡◌}
use mathlib.Core.Bool.{◌||◌}
use lib.ListN.{drop}
use lib.Dec.{eqb}
use Rattle.arith.specs.Lists.{any}
use Rattle.calendar.proofs.days.is_holiday.Given as goal

abbrev pub invariant-loop-holiday : goal.invariant-loop-holiday
invariant-loop-holiday l = l.found || any (λ x. eqb x l.day.0) (drop l.holiday-index l.holidays) ≡ any (λ x. eqb x l.day.0) l.holidays
