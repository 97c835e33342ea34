use Prim.Native.Nat.{◌≤◌}
use mathlib.Core.Path.{◌≡◌}
use mathlib.Core.List.{◌++◌}
use lib.ListN.{length, take, drop}
use Rattle.rules.specs.Default.{given_up}
use Rattle.dealing.proofs.columns.give_up.Given as goal

abbrev pub invariant-loop-i : goal.invariant-loop-i
invariant-loop-i l = (l.i ≤ length l.held) × (length l.given ≡ length l.held) × (take l.i l.given ++ given_up l.remaining (drop l.i l.held) ≡ given_up l.lots l.held)
