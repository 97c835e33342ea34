use borrow.Author.Tests.{le-leb, lt-leb}
use Rattle.reference_price.specs.Columns.{price_from}
use Rattle.reference_price.proofs.prices.reference_price.Goals as goal

pub returns-then-threshold-lots : goal.returns-then-threshold-lots
unfolding price_from
returns-then-threshold-lots c = rw (le-leb _ _ c.if-threshold-lots.true) c.rounded.ensures

pub returns : goal.returns
unfolding price_from
returns c = rw (lt-leb _ _ c.if-threshold-lots.false) c.quoted_price.ensures
