use native.Mathlib.Omega.{arith}
use mathlib.Core.Path.{◌≡◌, ap, ◌∙◌}
use lib.ListN.{length}
use Rattle.rules.specs.Ledger.{with_head, with_rows, with_lines, booked}
use Rattle.proposal.specs.Booking.{lines_to}
use Rattle.proposal.proofs.LegLines.{legs_start, legs_next, leg_takes}
use Rattle.proposal.proofs.booking.book_legs.Goals as goal

pub loop-i-init : goal.loop-i-init
loop-i-init c = let a = c.args in
    legs_start a.book.now a.places.now a.legs.now a.head.now a.lots.now a.value.now a.lines.now c.requires.bookable.0

pub order_at-order-requires : goal.order_at-order-requires
order_at-order-requires c =
    (omega (arith, c.requires.book_fit.1.below c.loop-i.i (omega arith), c.requires.bookable.1), c.requires.book_fit.0.long)

pub book_line-requires : goal.book_line-requires
book_line-requires c =
    let a = c.args in
    let fit = c.requires.book_fit in
    let l = c.loop-i in
    let takes = leg_takes a.book.now a.places.now a.legs.now a.head.now a.lots.now a.value.now a.lines.now fit.2 fit.3 fit.0 fit.1 (omega (arith, c.requires.bookable.0.long))
    l.i c.loop-i-test.true l.head l.lots l.value l.lines l.invariant c.order_at-order.result c.order_at-order.ensures in
    record { bookable = takes.0; line_fit = takes.1 }

pub loop-i-preserved : goal.loop-i-preserved
loop-i-preserved c =
    let a = c.args in
    let fit = c.requires.book_fit in
    let l = c.loop-i in
    legs_next a.book.now a.places.now a.legs.now a.head.now a.lots.now a.value.now a.lines.now fit.2 fit.3 fit.0 fit.1 (omega (arith, c.requires.bookable.0.long))
    l.i c.loop-i-test.true l.head l.lots l.value l.lines l.invariant c.order_at-order.result c.order_at-order.ensures _ _ _ _ c.book_line.ensures

pub returns : goal.returns
returns c =
    let a = c.args in
    let same : c.loop-i.i ≡ length a.legs.now = omega arith in
    λ t. c.loop-i.invariant.tables t ∙ ap
    (λ n. (booked (lines_to a.book.now a.places.now a.legs.now n)
    (with_head a.head.now (with_rows a.lots.now a.value.now (with_lines a.lines.now t)))).after) same
