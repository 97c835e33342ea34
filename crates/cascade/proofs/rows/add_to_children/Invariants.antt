use Prim.Native.Nat.{◌-◌}
use lib.ListN.{length}
use Rattle.arith.specs.Lists.{from}
use Rattle.rules.specs.CloseOfDay.{added_to}
use Rattle.cascade.proofs.Cascades.{Adding}
use Rattle.cascade.proofs.rows.add_to_children.Given as goal

abbrev pub invariant-loop-child : goal.invariant-loop-child
invariant-loop-child l = Adding l.members l.contract l.end (length l.initial.rows) (added_to l.members l.contract (from l.first (l.end - l.first)) l.initial.rows) l.parent l.child l.rows
