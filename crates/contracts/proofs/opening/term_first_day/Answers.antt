use mathlib.Core.List.{[]}
use native.Mathlib.Omega.{arith}
use Rattle.rules.specs.ContractTerms.{term_first_day}
use Rattle.contracts.proofs.opening.term_first_day.Goals as goal

pub overflow_add-first_month : goal.overflow_add-first_month
overflow_add-first_month c = rw c.months_in.ensures (omega (arith, c.first_month.ensures []))

pub month_start-requires : goal.month_start-requires
month_start-requires c = rw c.months_in.ensures (omega (arith, c.first_month.ensures []))

pub returns : goal.returns
unfolding term_first_day
returns c = λ h. rw (c.first_month.ensures h, c.months_in.ensures) at c.month_start.ensures
