use mathlib.Core.Bool.{◌&&◌}
use lib.ListN.{length}
use Rattle.rules.specs.Ledger.{with_prices}
use Rattle.rules.specs.Synthetic.{has_lots, price_allowed}
use Rattle.proposal_check.specs.Legs.{named_at}
use Rattle.proposal_check.proofs.Lists.{all_next, all_end}
use Rattle.proposal_check.proofs.Named.{within_same}
use Rattle.proposal_check.proofs.conditions.are_within.Goals as goal

pub loop-i-preserved : goal.loop-i-preserved
loop-i-preserved c =
    let a = c.args in
    λ t. rw (within_same (with_prices a.prices.now t) _ c.order_at-order.result _ _ c.order_at-order.ensures (c.is_price_allowed.ensures t))
    (all_next (named_at a.book.now a.places.now a.legs.now) (λ n. has_lots n && price_allowed (with_prices a.prices.now t) n) (length a.legs.now)
    c.loop-i.i c.loop-i.ok _ (c.loop-i.invariant t) c.loop-i-test.true)

pub returns : goal.returns
returns c =
    let a = c.args in
    λ t. all_end (named_at a.book.now a.places.now a.legs.now) (λ n. has_lots n && price_allowed (with_prices a.prices.now t) n) (length a.legs.now)
    c.loop-i.i c.loop-i.ok _ (c.loop-i.invariant t) c.loop-i-test.false
