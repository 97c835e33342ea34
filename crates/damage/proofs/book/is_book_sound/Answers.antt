use Rattle.std.proofs.Common.{[], ◌∙◌}
use Rattle.rules.specs.Ledger.{with_head, with_book}
use Rattle.damage.proofs.BookPlaces.{span_rises, book_is}
use Rattle.damage.proofs.book.is_book_sound.Goals as goal

pub are_orders_sound-requires : goal.are_orders_sound-requires
are_orders_sound-requires c =
    let pre = c.requires in
    let a = c.args in
    (pre.accepted_submits_place_bound.1, pre.accepted_submits_place_bound.0, pre.head_length_in_bounds.2, span_rises a.span _ (pre.head_length_in_bounds.1 []))

pub returns : goal.returns
returns c =
    let a = c.args in
    λ t. c.are_orders_sound.ensures ∙ book_is (with_head a.head.now (with_book a.book.now t)) a.span (c.requires.head_length_in_bounds.1 _)
