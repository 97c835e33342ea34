use mathlib.Core.Path.{sym, ◌∙◌}
use Rattle.rules.specs.ContractTerms.{still_to_close}
use Rattle.contracts.proofs.opening.still_to_close.Goals as goal

pub returns-in-Some : goal.returns-in-Some
unfolding still_to_close
returns-in-Some c = rw (sym c.term_closing_day.ensures ∙ c.in-Some.is)

pub returns-in-None : goal.returns-in-None
unfolding still_to_close
returns-in-None c = rw (sym c.term_closing_day.ensures ∙ c.in-None.is)
