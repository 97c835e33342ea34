use Prim.Native.Nat.{ℕ, ◌-◌}
use mathlib.Core.Path.{◌≡◌}
use mathlib.Core.Bool.{cond}
use mathlib.Core.List.{◌++◌, map}
use lib.ListN.{length, take}
use Rattle.arith.specs.Lists.{from}
use Rattle.rules.specs.declared.contract.ContractKind.{ContractKind}
use Rattle.rules.specs.Ranges.{term_count}
use Rattle.rules.specs.Days.{Calendar}
use Rattle.rules.specs.ContractTerms.{closing_distance, days_of, open_on}
use Rattle.months.specs.Spans.{starts_of}
use Rattle.contract_phases.specs.Least.{IsLeast, least_of}
use Rattle.open_days.specs.OpenDays.{open_days}
use Rattle.open_days.proofs.write_open_days.Given as goal

abbrev pub invariant-loop-contract : goal.invariant-loop-contract
invariant-loop-contract l = (length l.days ≡ term_count)
    × ((k : Calendar) (d : ℕ) → l.starts ≡ starts_of k → ((s : ContractKind) → IsLeast k d (closing_distance s) (least_of l.least s))
    → take l.contract l.days ++ map (λ c. cond (open_on k d c) (days_of k c) 0) (from l.contract (term_count - l.contract)) ≡ open_days k d)
