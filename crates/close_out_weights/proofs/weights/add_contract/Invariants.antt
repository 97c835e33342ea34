use Prim.Native.Nat.{◌+◌, ◌*◌, ◌-◌, ◌≤◌}
use mathlib.Core.Path.{◌≡◌}
use mathlib.Core.List.{◌++◌, map}
use lib.IntN.{pos, nat_abs}
use lib.ListN.{length, get_or, take, drop}
use Rattle.arith.specs.Lists.{from}
use Rattle.rules.specs.Ledger.{row_place}
use Rattle.close_out_weights.proofs.weights.add_contract.Given as goal

abbrev pub invariant-loop-i : goal.invariant-loop-i
invariant-loop-i l = (l.i ≤ length l.initial.sums) × (length l.sums ≡ length l.initial.sums) × (drop l.i l.sums ≡ drop l.i l.initial.sums)
    × (take l.i l.sums ++ map (λ m. get_or l.initial.sums m 0 + l.days * nat_abs (get_or l.lots (row_place l.contract m) (pos 0))) (from l.i (length l.initial.sums - l.i))
    ≡ map (λ m. get_or l.initial.sums m 0 + l.days * nat_abs (get_or l.lots (row_place l.contract m) (pos 0))) (from 0 (length l.initial.sums)))
