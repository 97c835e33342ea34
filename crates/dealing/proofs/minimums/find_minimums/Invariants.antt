use Prim.Native.Nat.{◌≤◌}
use mathlib.Core.Path.{◌≡◌}
use mathlib.Core.List.{◌++◌, map}
use lib.ListN.{length, take, drop}
use Rattle.rules.specs.Default.{minimum, minimums}
use Rattle.dealing.proofs.minimums.find_minimums.Given as goal

abbrev pub invariant-loop-i : goal.invariant-loop-i
invariant-loop-i l = (l.i ≤ length l.weights) × (length l.minima ≡ length l.weights) × (take l.i l.minima ++ map (minimum l.lots l.total) (drop l.i l.weights) ≡ minimums l.lots l.weights)
