use Prim.Native.Nat.{ℕ, ◌+◌, ◌-◌}
use mathlib.Core.Path.{◌≡◌}
use mathlib.Core.List.{◌++◌, map}
use lib.ListN.{length, take}
use Rattle.arith.specs.Lists.{from}
use Rattle.rules.specs.declared.contract.ContractKind.{ContractKind}
use Rattle.rules.specs.Ranges.{term_count}
use Rattle.rules.specs.Days.{Calendar}
use Rattle.rules.specs.ContractTerms.{closing_distance, term_of}
use Rattle.months.specs.Spans.{starts_of}
use Rattle.contract_phases.specs.Least.{IsLeast, least_of}
use Rattle.contract_phases.specs.Phases.{term_phase, phases}
use Rattle.contract_phases.proofs.by_contract.write_from.Given as goal

abbrev pub invariant-loop-contract : goal.invariant-loop-contract
invariant-loop-contract g l = (length l.column ≡ term_count)
    × ((k : Calendar) (d : ℕ) → l.starts ≡ starts_of k → ((s : ContractKind) → IsLeast k d (closing_distance s) (least_of l.least s))
    → ((s : ContractKind) → IsLeast k (d + 1) (closing_distance s) (least_of l.later s))
    → take l.contract l.column ++ map (λ c. g.P.PhasePlace.written (term_phase k d (term_of c))) (from l.contract (term_count - l.contract)) ≡ map g.P.PhasePlace.written (phases k d))
