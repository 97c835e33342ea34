use mathlib.Core.Path.{◌≡◌}
use mathlib.Core.List.{◌++◌}
use lib.ListN.{length, take, drop}
use Rattle.proposal.specs.Booking.{order_lots}
use Rattle.proposal.proofs.booking.write_lots.Given as goal

abbrev pub invariant-loop-i : goal.invariant-loop-i
invariant-loop-i l = l.left ≡ take l.i (order_lots (length l.initial.left) l.book) ++ drop l.i l.initial.left
