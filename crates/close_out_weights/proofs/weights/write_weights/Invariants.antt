use Prim.Native.Nat.{◌+◌, ◌-◌, ◌≤◌}
use mathlib.Core.Path.{◌≡◌}
use mathlib.Core.Bool.{cond}
use mathlib.Core.List.{◌++◌, map}
use lib.Dec.{eqb}
use lib.ListN.{length, get_or, take}
use Rattle.arith.specs.Lists.{from}
use Rattle.rules.specs.Ledger.{marks_from}
use Rattle.tables.specs.Fit.{members_in}
use Rattle.close_out_weights.proofs.weights.write_weights.Given as goal

abbrev pub invariant-loop-i : goal.invariant-loop-i
invariant-loop-i l = (l.i ≤ members_in l.head) × (length l.weights ≡ members_in l.head)
    × (take l.i l.weights ++ map (λ m. cond (eqb (get_or l.head (marks_from + m) 0) 1) 0 (get_or l.sums m 0)) (from l.i (members_in l.head - l.i))
    ≡ map (λ m. cond (eqb (get_or l.head (marks_from + m) 0) 1) 0 (get_or l.sums m 0)) (from 0 (members_in l.head)))
