use Prim.Native.Nat.{◌-◌, ◌*◌, min}
use mathlib.Core.Path.{ap, ◌∙◌}
use lib.ListN.{get_or}
use Rattle.arith.specs.Lists.{over}
use Rattle.matching.specs.Deals.{counterparty, deal_places}
use Rattle.matching.proofs.levels.deal.Goals as goal

pub returns : goal.returns
returns c =
    let a = c.args in
    let lots = min a.wanted.0 (get_or a.left.now a.i 0) in record {
      deal_made = record {
        still_wanted = ap (λ n. a.wanted.0 - n) c.min.ensures;
        left_after_holds = rw (← c.min.ensures) c.use_lots.ensures.left_after_holds;
        ranks_after = rw (← c.min.ensures) c.use_lots.ensures.ranks_after;
        deals_after =
            c.put_deal.ensures
            ∙ ap (λ q. over (a.k * 3) (deal_places (counterparty c.order_at-resting.result q)) a.deals.now) c.min.ensures
            ∙ ap (λ r. over (a.k * 3) (deal_places (counterparty r lots)) a.deals.now) c.order_at-resting.ensures;
      };
      block_lows = c.use_lots.ensures.block_lows;
    }
