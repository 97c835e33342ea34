use mathlib.Core.Path.{◌≡◌}
use Prim.Native.Nat.{◌+◌, ◌*◌, ◌≤◌}
use lib.ListN.{drop}
use Rattle.arith.specs.Lists.{total}
use Rattle.proposal_check.specs.Legs.{lots_of}
use Rattle.proposal.proofs.booking.total_lots.Given as goal

abbrev pub invariant-loop-leg : goal.invariant-loop-leg
invariant-loop-leg l = (l.sum ≤ l.leg-index * 100) × (l.sum + total lots_of (drop l.leg-index l.legs) ≡ total lots_of l.legs)
