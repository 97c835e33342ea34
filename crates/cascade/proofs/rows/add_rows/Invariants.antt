use mathlib.Core.Path.{◌≡◌}
use mathlib.Core.List.{◌++◌, zip_with}
use lib.ListN.{length, take, drop}
use lib.IntN.{◌+ℤ◌}
use Rattle.cascade.proofs.rows.add_rows.Given as goal

abbrev pub invariant-loop-i : goal.invariant-loop-i
invariant-loop-i l = (length l.child ≡ length l.initial.child) × (l.child ≡ take l.i (zip_with ◌+ℤ◌ l.initial.child l.fn.parent) ++ drop l.i l.initial.child)
