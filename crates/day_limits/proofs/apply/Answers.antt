use mathlib.Core.Path.{sym, ◌∙◌}
use lib.ListN.{length-set}
use native.Mathlib.Omega.{arith}
use Rattle.rules.specs.Ledger.{with_prices}
use Rattle.rules.specs.Refusals.{day_limits_spec}
use Rattle.rules.proofs.LinesRun.{booked_none}
use Rattle.day_limits.proofs.apply.Goals as goal

pub returns-then-not-is_contract_open : goal.returns-then-not-is_contract_open
unfolding day_limits_spec
returns-then-not-is_contract_open c = λ t. rw (sym (c.is_contract_open.ensures (with_prices c.args.prices.now t)) ∙ c.if-not-is_contract_open.true)

pub bounds-prices-at-2 : goal.bounds-prices-at-2
bounds-prices-at-2 c = simp length-set (omega arith)

pub returns : goal.returns
unfolding day_limits_spec
returns c = λ t. rw (sym (c.is_contract_open.ensures (with_prices c.args.prices.now t)) ∙ c.if-not-is_contract_open.false) (sym (booked_none _))
