use native.Mathlib.Omega.{arith}
use borrow.Author.Tests.{lt-ltb, le-ltb, eq-eqb, ne_eqb}
use Rattle.arith.proofs.Tests.{le_or_lt}
use Rattle.reference_price.specs.Columns.{better_quote}
use Rattle.reference_price.proofs.quotes.better_quote.Goals as goal

pub returns-then-held-eq0 : goal.returns-then-held-eq0
unfolding better_quote
returns-then-held-eq0 c = rw (eq-eqb _ _ c.if-held-eq0.true)

pub returns-in-Buy : goal.returns-in-Buy
unfolding better_quote
returns-in-Buy c =
    let p = c.args.price.0 in
    let held = c.args.held.0 in
    le_or_lt p held (λ h. rw (c.in-Buy.is, ne_eqb _ _ c.if-held-eq0.false, le-ltb held p h) (omega arith))
    (λ h. rw (c.in-Buy.is, ne_eqb _ _ c.if-held-eq0.false, lt-ltb held p h) (omega arith))

pub returns-in-Sell : goal.returns-in-Sell
unfolding better_quote
returns-in-Sell c =
    let p = c.args.price.0 in
    let held = c.args.held.0 in
    le_or_lt held p (λ h. rw (c.in-Sell.is, ne_eqb _ _ c.if-held-eq0.false, le-ltb p held h) (omega arith))
    (λ h. rw (c.in-Sell.is, ne_eqb _ _ c.if-held-eq0.false, lt-ltb p held h) (omega arith))
