use Rattle.rules.specs.Synthetic.{price_allowed}
use Rattle.proposal_check.proofs.conditions.is_price_allowed.Goals as goal

pub returns-in-Buy : goal.returns-in-Buy
unfolding price_allowed
returns-in-Buy c = λ t. rw c.in-Buy.is

pub returns-in-Sell : goal.returns-in-Sell
unfolding price_allowed
returns-in-Sell c = λ t. rw c.in-Sell.is
