use Prim.Native.Nat.{ℕ, ◌+◌, ◌-◌, ◌<◌}
use mathlib.Core.Path.{◌≡◌}
use Rattle.rules.specs.Days.{Calendar}
use Rattle.contract_phases.specs.Least.{day_after_nth, least_first_day}
use Rattle.contract_phases.proofs.least_days.least_first_day.Given as goal

abbrev pub invariant-loop-x : goal.invariant-loop-x
invariant-loop-x l = (0 < l.to_count) × ((y : ℕ) → let k : Calendar = record { first_year = y; holidays = l.holidays } in
    day_after_nth k (l.fn.end.0 + 1) (l.fn.end.0 - l.x) l.to_count l.x ≡ least_first_day k l.initial.x l.n l.fn.end.0)
