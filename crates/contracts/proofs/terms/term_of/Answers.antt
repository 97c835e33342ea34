use borrow.Author.Tests.{eq-eqb, ne_eqb, le-leb, lt-leb}
use Rattle.rules.specs.ContractTerms.{term_of}
use Rattle.contracts.proofs.terms.term_of.Goals as goal

pub returns-then-k-eq0 : goal.returns-then-k-eq0
unfolding term_of
returns-then-k-eq0 c = search (eq-eqb, ne_eqb, le-leb, lt-leb)

pub returns-then-k-le-LAST_QUARTER : goal.returns-then-k-le-LAST_QUARTER
unfolding term_of
returns-then-k-le-LAST_QUARTER c = search (eq-eqb, ne_eqb, le-leb, lt-leb)

pub returns : goal.returns
unfolding term_of
returns c = search (eq-eqb, ne_eqb, le-leb, lt-leb)
