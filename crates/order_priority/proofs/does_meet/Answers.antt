use Rattle.rules.specs.Matching.{meets}
use Rattle.order_priority.proofs.does_meet.Goals as goal

pub returns-in-Buy : goal.returns-in-Buy
unfolding meets
returns-in-Buy c = rw c.in-Buy.is

pub returns-in-Sell : goal.returns-in-Sell
unfolding meets
returns-in-Sell c = rw c.in-Sell.is
