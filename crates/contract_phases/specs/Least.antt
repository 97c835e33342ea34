-- Which contracts are still to close: those that first deliver on a certain day or later. That day is found once for each kind.
use Rattle.std.specs.Prelude.{ℕ, zero, suc, ◌+◌, ◌-◌, ◌≤◌, cond, ◌≡◌, leb}
use Rattle.rules.specs.declared.contract.ContractKind.{ContractKind}
use Rattle.rules.specs.declared.contract.ContractKind.TheVariants.{Year, Quarter, Month}
use Rattle.rules.specs.Days.{Calendar, day_after_span, business_day, business_day_before}
use Rattle.rules.specs.ContractTerms.{not_before}
use Rattle.contract_phases.specs.declared.least_days.LeastDays.{LeastDays}

-- The day after the nth business day, n at least 1, of the m days from day x on; `none` where they have fewer.
unfoldable pub day_after_nth : Calendar → ℕ → ℕ → ℕ → ℕ → ℕ
day_after_nth k none zero n x = none
day_after_nth k none (suc m) n x =
    let counted = day_after_nth k none m (n - 1) (x + 1) in
    let idle = day_after_nth k none m n (x + 1) in
    cond (business_day k x) (cond (leb n 1) (x + 1) counted) idle

-- The least day, at most `end`, before which n business days, n at least 1, lie from day d on; `end` + 1 where there is none.
abbrev pub least_first_day : Calendar → ℕ → ℕ → ℕ → ℕ
least_first_day k d n end = day_after_nth k (end + 1) (end - d) n d

-- A contract that closes n business days before its first delivery day f, at most the day after the span, is still to close on
-- day d exactly if f is `least` or later. proofs/Least has the law `is_least`: least_first_day up to the day after the span is such a day.
abbrev pub IsLeast : Calendar → ℕ → ℕ → ℕ → Type 0
IsLeast k d n least = (f : ℕ) → f ≤ day_after_span k → not_before (business_day_before k n f) d ≡ leb least f

abbrev pub least_of : LeastDays → ContractKind → ℕ
least_of o Year = o.year.0
least_of o Quarter = o.quarter.0
least_of o Month = o.month.0
