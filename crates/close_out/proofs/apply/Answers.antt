use mathlib.Core.Path.{sym, ◌∙◌}
use native.Mathlib.Omega.{arith}
use Rattle.rules.specs.Ledger.{Tables, with_prices}
use Rattle.close_out.proofs.Running.{put}
use Rattle.close_out.proofs.Verdicts.{first_price, not_open, no_reference}
use Rattle.close_out.proofs.apply.Goals as goal

pub returns-then-not-is_contract_open : goal.returns-then-not-is_contract_open
returns-then-not-is_contract_open c =
    let a = c.args in
    let u = λ (t : Tables). with_prices a.prices.now (put a.head.now a.lots.now a.value.now a.lines.now t) in
    λ t. not_open (u t) a.e (sym (c.is_contract_open.ensures (u t)) ∙ c.if-not-is_contract_open.true)

pub returns-then-price-eq0 : goal.returns-then-price-eq0
returns-then-price-eq0 c =
    let a = c.args in
    let u = λ (t : Tables). with_prices a.prices.now (put a.head.now a.lots.now a.value.now a.lines.now t) in
    λ t. no_reference (u t) a.e (sym (c.is_contract_open.ensures (u t)) ∙ c.if-not-is_contract_open.false) (sym (first_price a.prices.now a.e.contract) ∙ c.if-price-eq0.true)

pub close_out_lots-requires-clause-contract_lt_contract_count : goal.close_out_lots-requires-clause-contract_lt_contract_count
close_out_lots-requires-clause-contract_lt_contract_count c =
    let e = c.args.e in
    let below = c.requires.contract_lt_contract_count in
    let most = (c.requires.head_fit.2.contract_fit e.contract below.0).most_ggf in
    (below.0, below.1, omega (arith, first_price c.args.prices.now e.contract, most), omega (arith, c.if-price-eq0.false))

pub returns : goal.returns
returns c =
    let a = c.args in
    let u = λ (t : Tables). with_prices a.prices.now (put a.head.now a.lots.now a.value.now a.lines.now t) in
    λ t. c.close_out_lots.ensures (with_prices a.prices.now t) (sym (c.is_contract_open.ensures (u t)) ∙ c.if-not-is_contract_open.false) (sym (first_price a.prices.now a.e.contract))
