use Prim.Native.Nat.{ℕ}
use mathlib.Core.Path.{◌≡◌}
use Rattle.rules.specs.Days.{business_day_before}
use Rattle.calendar.proofs.days.business_day_before.Given as goal

abbrev pub invariant-loop-x : goal.invariant-loop-x
invariant-loop-x l = (y : ℕ) → business_day_before (record { first_year = y; holidays = l.holidays }) l.to_count l.x
    ≡ business_day_before (record { first_year = y; holidays = l.holidays }) l.n l.initial.x
