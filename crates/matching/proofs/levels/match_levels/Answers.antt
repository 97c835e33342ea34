use Rattle.std.proofs.Common.{arith, sym, ap, ◌∙◌}
use Rattle.matching.specs.Ranks.{NoneRanked, BestPlace}
use Rattle.matching.proofs.Going.{going_start, going_from, none_left, best_apart, next_first, next_level, going_made, still_less, match_made}
use Rattle.matching.proofs.levels.match_levels.Goals as goal

pub levels-init : goal.levels-init
levels-init c =
    let p = c.requires in (going_start _ _ _ _ _ _ p.cases.0 p.cases.1 p.left_value.0 p.left_value.1 p.left_value.2, c.best_place-best.ensures)

pub orders-init : goal.orders-init
orders-init c =
    let g = c.levels.invariant.0 in
    let crosses = sym c.does_meet.ensures ∙ c.if-not-does_meet.false in
    let best : BestPlace c.levels.lows c.in-Some.first = rw c.in-Some.is at c.levels.invariant.1 in (
      going_from _ _ _ _ _ _ _ _ _ _ g _ c.levels.k (omega arith) (sym g.deals_length) (sym g.past),
      next_first _ _ _ _ _ _ _ _ _ _ g _ best _ c.order_at-resting.ensures crosses,
      omega arith,
      omega arith,
    )

pub levels-smaller-in_default-best : goal.levels-smaller-in_default-best
levels-smaller-in_default-best c =
    let i = c.orders.invariant in
    let d = c.deal-wanted.ensures in
    omega (arith, still_less _ _ _ _ _ _ _ _ _ _ i.0 _ _ i.1 _ _ _ _ _ d.deal_made d.block_lows, i.2)

pub levels-preserved-in_default-best : goal.levels-preserved-in_default-best
levels-preserved-in_default-best c =
    let i = c.orders.invariant in
    let d = c.deal-wanted.ensures in
    let whole = c.levels.invariant.0 in
    let g = going_from _ _ _ _ _ _ _ _ _ _ i.0 _ c.levels.k i.3 whole.deals_length whole.past in
    (going_made _ _ _ _ _ _ _ _ _ _ g _ _ i.1 _ _ _ _ _ d.deal_made d.block_lows c.if-wanted-eq0.false, c.best_place-best-in-orders.ensures)

pub levels-smaller : goal.levels-smaller
levels-smaller c =
    let i = c.orders.invariant in
    let d = c.deal-wanted.ensures in
    omega (arith, still_less _ _ _ _ _ _ _ _ _ _ i.0 _ _ i.1 _ _ _ _ _ d.deal_made d.block_lows, i.2)

pub levels-preserved : goal.levels-preserved
levels-preserved c =
    let i = c.orders.invariant in
    let d = c.deal-wanted.ensures in
    let whole = c.levels.invariant.0 in
    let g = going_from _ _ _ _ _ _ _ _ _ _ i.0 _ c.levels.k i.3 whole.deals_length whole.past in
    (going_made _ _ _ _ _ _ _ _ _ _ g _ _ i.1 _ _ _ _ _ d.deal_made d.block_lows c.if-wanted-eq0.false, c.in-Some-best.ensures)

pub orders-smaller : goal.orders-smaller
orders-smaller c =
    let i = c.orders.invariant in
    let d = c.deal-wanted.ensures in
    still_less _ _ _ _ _ _ _ _ _ _ i.0 _ _ i.1 _ _ _ _ _ d.deal_made d.block_lows

pub orders-preserved : goal.orders-preserved
orders-preserved c =
    let i = c.orders.invariant in
    let d = c.deal-wanted.ensures in
    let made = going_made _ _ _ _ _ _ _ _ _ _ i.0 _ _ i.1 _ _ _ _ _ d.deal_made d.block_lows c.if-wanted-eq0.false in (
      made,
      next_level _ _ _ _ _ _ _ _ _ _ made _ _ c.in-Some-best.ensures (ap (λ r. r.price.0) (sym c.order_at.ensures) ∙ c.if-order_at-level.false) i.1.crosses,
      omega (arith, still_less _ _ _ _ _ _ _ _ _ _ i.0 _ _ i.1 _ _ _ _ _ d.deal_made d.block_lows, i.2),
      omega (arith, i.3),
    )

pub returns-then-not-does_meet : goal.returns-then-not-does_meet
returns-then-not-does_meet c =
    let apart = sym c.does_meet.ensures ∙ c.if-not-does_meet.true in
    let best : BestPlace c.levels.lows c.in-Some.first = rw c.in-Some.is at c.levels.invariant.1 in
    best_apart _ _ _ _ _ _ _ _ _ _ c.levels.invariant.0 _ best _ c.order_at-resting.ensures apart

pub returns-then-wanted-eq0 : goal.returns-then-wanted-eq0
returns-then-wanted-eq0 c =
    let i = c.orders.invariant in
    let d = c.deal-wanted.ensures in
    let whole = c.levels.invariant.0 in
    let g = going_from _ _ _ _ _ _ _ _ _ _ i.0 _ c.levels.k i.3 whole.deals_length whole.past in
    match_made _ _ _ _ _ _ _ _ _ _ g _ _ i.1 _ _ _ _ _ d.deal_made d.block_lows c.if-wanted-eq0.true

pub returns-in_default : goal.returns-in_default
returns-in_default c =
    let none : NoneRanked c.levels.lows = rw c.in_default.is at c.levels.invariant.1 in
    none_left _ _ _ _ _ _ _ _ _ _ c.levels.invariant.0 none
