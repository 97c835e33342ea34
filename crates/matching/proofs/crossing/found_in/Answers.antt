use borrow.Author.Tests.{ne_eqb}
use Rattle.matching.proofs.Passes.{none_found}
use Rattle.matching.proofs.crossing.found_in.Goals as goal

pub returns-then-r-o : goal.returns-then-r-o
returns-then-r-o c = none_found _ _ (ne_eqb _ _ c.if-r-o.true)
