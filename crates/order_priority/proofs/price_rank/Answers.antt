use Rattle.order_priority.proofs.price_rank.Goals as goal

pub returns-in-Buy : goal.returns-in-Buy
returns-in-Buy c = rw c.in-Buy.is
