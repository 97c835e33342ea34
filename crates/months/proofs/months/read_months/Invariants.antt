use Prim.Native.Nat.{◌+◌, ◌-◌}
use mathlib.Core.Path.{◌≡◌}
use mathlib.Core.List.{◌++◌, map}
use lib.ListN.{length, take}
use Rattle.arith.specs.Lists.{from}
use Rattle.rules.specs.Days.{month_start}
use Rattle.months.proofs.months.read_months.Given as goal

abbrev pub invariant-loop-i : goal.invariant-loop-i
invariant-loop-i l = (length l.out ≡ length l.initial.out)
    × (take l.i l.out ++ map (λ j. month_start (l.first + j)) (from l.i (length l.initial.out - l.i)) ≡ map (λ j. month_start (l.first + j)) (from 0 (length l.initial.out)))
