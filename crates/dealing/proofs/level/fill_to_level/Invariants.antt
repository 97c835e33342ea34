use Prim.Native.Nat.{◌≤◌, min}
use mathlib.Core.Path.{◌≡◌}
use mathlib.Core.List.{◌++◌, map}
use lib.ListN.{length, take, drop}
use Rattle.dealing.specs.Levels.{at_level}
use Rattle.dealing.proofs.level.fill_to_level.Given as goal

abbrev pub invariant-loop-i : goal.invariant-loop-i
invariant-loop-i l = (l.i ≤ length l.minima) × (length l.received ≡ length l.minima) × (take l.i l.received ++ map (min l.level) (drop l.i l.minima) ≡ at_level l.level l.minima)
