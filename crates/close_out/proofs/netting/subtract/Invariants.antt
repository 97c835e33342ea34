use Prim.Native.Nat.{◌≤◌}
use mathlib.Core.Path.{◌≡◌}
use mathlib.Core.List.{◌++◌}
use lib.ListN.{length, take, drop}
use Rattle.rules.specs.Default.{less}
use Rattle.close_out.proofs.netting.subtract.Given as goal

abbrev pub invariant-loop-i : goal.invariant-loop-i
invariant-loop-i l = (l.i ≤ length l.initial.held) × (length l.held ≡ length l.initial.held) × (drop l.i l.held ≡ drop l.i l.initial.held) × (take l.i l.held ++ less (drop l.i l.initial.held) (drop l.i l.given) ≡ less l.initial.held l.given)
