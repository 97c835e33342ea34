use mathlib.Core.Path.{ap, ◌∙◌}
use Rattle.order_priority.specs.Priority.{rank_of}
use Rattle.proposal_check.specs.SidePlaces.{side_place_of}
use Rattle.proposal_check.proofs.LastRanks.{lasts_start, lasts_next, lasts_end}
use Rattle.proposal_check.proofs.priority.write_last_ranks.Goals as goal

pub loop-place-init : goal.loop-place-init
loop-place-init c = rw c.requires.1 (lasts_start c.args.book.now c.args.places.now)

pub loop-place-preserved : goal.loop-place-preserved
loop-place-preserved c =
    let a = c.args in
    let read = c.order_at-order.ensures in
    rw c.max.ensures
    (lasts_next a.book.now a.places.now c.loop-place.place-index c.side_place-at.result c.rank_of.result c.loop-place.lasts
    c.loop-place.invariant c.loop-place-test.true
    (c.side_place-at.ensures.0 ∙ ap side_place_of read) c.side_place-at.ensures.1 (c.rank_of.ensures ∙ ap rank_of read))

pub returns : goal.returns
returns c = lasts_end c.args.book.now c.args.places.now c.loop-place.place-index _ c.loop-place.invariant c.loop-place-test.false
