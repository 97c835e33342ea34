use Rattle.rules.specs.Ledger.{Tables}
use Rattle.close_out.proofs.Running.{put, Running}
use Rattle.close_out.proofs.booking.book_changes.Given as goal

abbrev pub invariant-loop-member : goal.invariant-loop-member
invariant-loop-member l = (t : Tables) → Running l.contract l.price.0 l.i l.gains l.losses
    (put l.initial.head l.initial.lots l.initial.value l.initial.lines t) (put l.head l.lots l.value l.lines t) l.at l.member
