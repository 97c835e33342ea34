use borrow.Author.Tests.{eq-eqb, ne_eqb}
use Rattle.rules.specs.Matching.{opposes}
use Rattle.order_priority.proofs.does_oppose.Goals as goal

pub returns-then-r-o : goal.returns-then-r-o
unfolding opposes
returns-then-r-o c = rw (eq-eqb _ _ c.if-r-o.true, c.is_same_side.ensures, c.other_side.ensures)

pub returns-else-r-o : goal.returns-else-r-o
unfolding opposes
returns-else-r-o c = rw (ne_eqb _ _ c.if-r-o.false)
