use Rattle.proposal.proofs.LegLines.{LegsBooked}
use Rattle.proposal.proofs.booking.book_legs.Given as goal

abbrev pub invariant-loop-i : goal.invariant-loop-i
invariant-loop-i l =
    LegsBooked l.book l.places l.legs l.initial.head l.initial.lots l.initial.value l.initial.lines l.i l.head l.lots l.value l.lines
