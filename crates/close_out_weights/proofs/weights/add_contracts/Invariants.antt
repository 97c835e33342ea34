use Prim.Native.Nat.{◌≤◌}
use mathlib.Core.Path.{◌≡◌}
use mathlib.Core.List.{map}
use lib.ListN.{length}
use Rattle.arith.specs.Lists.{from}
use Rattle.rules.specs.Ranges.{term_count}
use Rattle.close_out_weights.specs.Columns.{weight_by}
use Rattle.close_out_weights.proofs.weights.add_contracts.Given as goal

abbrev pub invariant-loop-contract : goal.invariant-loop-contract
invariant-loop-contract l = (l.contract ≤ term_count) × (length l.sums ≡ length l.initial.sums) × (l.sums ≡ map (weight_by l.contract l.days l.lots) (from 0 (length l.initial.sums)))
