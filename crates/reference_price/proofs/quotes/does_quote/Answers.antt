use Rattle.rules.specs.CloseOfDay.{entered_before}
use Rattle.reference_price.specs.Columns.{quotes_at}
use Rattle.reference_price.proofs.quotes.does_quote.Goals as goal

pub returns : goal.returns
unfolding quotes_at entered_before
returns c = rw (c.is_same_side.ensures, c.threshold-threshold.ensures, c.kind_of.ensures)
