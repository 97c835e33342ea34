use mathlib.Core.Path.{sym, ◌∙◌}
use Rattle.reference_price.proofs.quotes.note_quote.Goals as goal

pub returns-then-does_quote : goal.returns-then-does_quote
returns-then-does_quote c = rw (sym c.does_quote.ensures ∙ c.if-does_quote.true, c.better_quote.ensures)

pub returns-else-does_quote : goal.returns-else-does_quote
returns-else-does_quote c = rw (sym c.does_quote.ensures ∙ c.if-does_quote.false)
