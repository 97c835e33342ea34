use native.Mathlib.Omega.{arith}
use Rattle.tables.proofs.Same.{same_none, same_then}
use Rattle.submit.proofs.Lines.{booking_start, deal_fits, booking_next}
use Rattle.submit.proofs.deals.book_deals.Goals as goal

pub loop-k-init : goal.loop-k-init
loop-k-init c = (omega arith, booking_start _ _ _ _ c.requires.bookable.0, same_none)

pub book_deal-requires : goal.book_deal-requires
book_deal-requires c =
    let pre = c.requires in
    let f = deal_fits _ _ _ _ pre.bookable.1 pre.member_bound _ (omega arith) _ c.loop-k.invariant.1 _ c.deal_at.ensures in
    record { bookable = f.0; line_fit = f.1 }

pub loop-k-preserved : goal.loop-k-preserved
loop-k-preserved c =
    let pre = c.requires in
    let booking = c.loop-k.invariant.1 in
    let after = c.book_deal.ensures in (
      omega arith,
      booking_next _ _ _ _ pre.bookable.1 pre.member_bound _ (omega arith) _ booking _ c.deal_at.ensures _ (omega (arith, pre.bookable.0.long)) after.booked,
      same_then c.loop-k.invariant.2 after.same,
    )
