use mathlib.Core.Path.{sym, ◌∙◌}
use borrow.Author.Tests.{lt-ltb, le-ltb, le-leb, lt-leb, eq-eqb, ne_eqb}
use Rattle.rules.specs.Ledger.{with_prices}
use Rattle.rules.specs.Matching.{submits_at}
use Rattle.submit_causes.proofs.causes.first_cause.Goals as goal

pub returns-then-e-head : goal.returns-then-e-head
returns-then-e-head c = λ t b. rw (lt-ltb _ _ c.if-e-head.true)

pub returns-then-head-e-eq-DEFAULT_MARK : goal.returns-then-head-e-eq-DEFAULT_MARK
returns-then-head-e-eq-DEFAULT_MARK c = λ t b. rw (le-ltb _ _ c.if-e-head.false, eq-eqb _ _ c.if-head-e-eq-DEFAULT_MARK.true)

pub returns-then-not-is_contract_open : goal.returns-then-not-is_contract_open
returns-then-not-is_contract_open c = λ t b. rw (le-ltb _ _ c.if-e-head.false, ne_eqb _ _ c.if-head-e-eq-DEFAULT_MARK.false, sym (c.is_contract_open.ensures (with_prices c.args.prices.now t)) ∙ c.if-not-is_contract_open.true)

pub returns-then-is_price_outside : goal.returns-then-is_price_outside
returns-then-is_price_outside c = λ t b. rw (le-ltb _ _ c.if-e-head.false, ne_eqb _ _ c.if-head-e-eq-DEFAULT_MARK.false, sym (c.is_contract_open.ensures (with_prices c.args.prices.now t)) ∙ c.if-not-is_contract_open.false, sym c.is_price_outside.ensures ∙ c.if-is_price_outside.true)

pub returns-then-submits_at-ge-MOST_SUBMITS_IN_SECOND : goal.returns-then-submits_at-ge-MOST_SUBMITS_IN_SECOND
returns-then-submits_at-ge-MOST_SUBMITS_IN_SECOND c = λ t b. rw (le-ltb _ _ c.if-e-head.false, ne_eqb _ _ c.if-head-e-eq-DEFAULT_MARK.false, sym (c.is_contract_open.ensures (with_prices c.args.prices.now t)) ∙ c.if-not-is_contract_open.false, sym c.is_price_outside.ensures ∙ c.if-is_price_outside.false, ← c.submits_at.ensures (with_prices c.args.prices.now t), le-leb _ _ c.if-submits_at-ge-MOST_SUBMITS_IN_SECOND.true)

pub returns : goal.returns
returns c = λ t b. rw (le-ltb _ _ c.if-e-head.false, ne_eqb _ _ c.if-head-e-eq-DEFAULT_MARK.false, sym (c.is_contract_open.ensures (with_prices c.args.prices.now t)) ∙ c.if-not-is_contract_open.false, sym c.is_price_outside.ensures ∙ c.if-is_price_outside.false, ← c.submits_at.ensures (with_prices c.args.prices.now t), lt-leb _ _ c.if-submits_at-ge-MOST_SUBMITS_IN_SECOND.false)
