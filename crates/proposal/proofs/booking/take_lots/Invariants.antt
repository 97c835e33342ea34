use mathlib.Core.Path.{◌≡◌}
use Rattle.proposal.specs.Booking.{left_after}
use Rattle.proposal.proofs.booking.take_lots.Given as goal

abbrev pub invariant-loop-i : goal.invariant-loop-i
invariant-loop-i l = l.left ≡ left_after l.places l.legs l.i l.initial.left
