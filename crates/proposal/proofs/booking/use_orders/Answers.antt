use native.Mathlib.Omega.{arith}
use mathlib.Core.Path.{sym, ap, subst, ◌∙◌}
use lib.ListN.{get_or, length, replicate}
use lib.Seq.{length-take-le}
use Rattle.rules.specs.Ledger.{order_count_place}
use Rattle.rules.specs.Ledger.{with_head, with_book, with_orders}
use Rattle.tables.specs.Fit.{orders_in}
use Rattle.order_book.specs.Left.{left_over}
use Rattle.proposal_check.specs.Legs.{PlacesFit}
use Rattle.proposal.proofs.Taken.{left_long, left_many, left_front}
use Rattle.proposal.proofs.booking.use_orders.Goals as goal

pub slice_bounds-write_left-end : goal.slice_bounds-write_left-end
slice_bounds-write_left-end c = sym (length-take-le _ _ c.requires.1)

pub write_left-requires : goal.write_left-requires
write_left-requires c =
    let a = c.args in let most = c.requires.1 in
    (rw (length-take-le _ _ most) most, c.requires.2, subst (λ n. PlacesFit n a.places.now) (sym (length-take-le _ _ most)) c.requires.3, c.requires.4)

pub slice_bounds-left-end-2 : goal.slice_bounds-left-end-2
slice_bounds-left-end-2 c =
    let a = c.args in left_long a.places.now a.legs.now (length a.places.now) (get_or a.head.now order_count_place 0) _ (replicate 256 0) a.book.now c.requires.1
    c.write_left.ensures

pub slice_bounds-keep_orders-end : goal.slice_bounds-keep_orders-end
slice_bounds-keep_orders-end c =
    let a = c.args in left_many a.places.now a.legs.now (length a.places.now) (get_or a.head.now order_count_place 0) _ (replicate 256 0) a.book.now c.requires.1
    c.write_left.ensures

pub keep_orders-requires : goal.keep_orders-requires
keep_orders-requires c =
    let a = c.args in
    let n = get_or a.head.now order_count_place 0 in
    let p = c.requires in
    let many = left_many a.places.now a.legs.now (length a.places.now) n _ (replicate 256 0) a.book.now p.1 c.write_left.ensures in
    record { head_length_in_bounds = (p.0, p.2, p.1, rw (← many) (omega arith)); by_index = p.5 }

pub returns : goal.returns
returns c =
    let a = c.args in let n = get_or a.head.now order_count_place 0 in
    λ t. c.keep_orders.ensures t
    ∙ ap (λ left. with_orders (left_over left (orders_in n a.book.now)) (with_head a.head.now (with_book a.book.now t)))
    (left_front a.places.now a.legs.now (length a.places.now) n _ (replicate 256 0) a.book.now c.requires.1 c.write_left.ensures)
