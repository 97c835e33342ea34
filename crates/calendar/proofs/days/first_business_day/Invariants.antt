use Prim.Native.Nat.{ℕ, ◌-◌}
use mathlib.Core.Path.{◌≡◌}
use Rattle.rules.specs.Days.{first_business_day}
use Rattle.calendar.proofs.days.first_business_day.Given as goal

abbrev pub invariant-loop-x : goal.invariant-loop-x
invariant-loop-x l = (y : ℕ) → first_business_day (record { first_year = y; holidays = l.holidays }) (l.fn.end.0 - l.x) l.x
    ≡ first_business_day (record { first_year = y; holidays = l.holidays }) (l.fn.end.0 - l.initial.x) l.initial.x
