use borrow.Author.Tests.{lt-ltb, le-ltb}
use Rattle.reference_price.specs.Columns.{quoted_from}
use Rattle.reference_price.proofs.prices.quoted_price.Goals as goal

pub returns-then-buy-sell : goal.returns-then-buy-sell
unfolding quoted_from
returns-then-buy-sell c = rw c.if-buy-sell.true

pub returns-then-lots-gt0 : goal.returns-then-lots-gt0
unfolding quoted_from
returns-then-lots-gt0 c = rw (c.if-buy-sell.false, lt-ltb _ _ c.if-lots-gt0.true) (rw c.times.ensures at c.rounded.ensures)

pub returns : goal.returns
unfolding quoted_from
returns c = rw (c.if-buy-sell.false, le-ltb _ _ c.if-lots-gt0.false) c.rounded-2.ensures
