use Rattle.arith.specs.Lists.{all_of}
use Rattle.arith.proofs.Tests.{and_true, asked_true, asked_false}
use Rattle.arith.proofs.Tests.{tests}
use Rattle.damage.proofs.InTurn.{contract_in_turn}
use Rattle.damage.proofs.prices.is_contract_sound.Goals as goal

pub returns-then-prices-gt-MOST_PRICE : goal.returns-then-prices-gt-MOST_PRICE
unfolding all_of
returns-then-prices-gt-MOST_PRICE c = rw (← contract_in_turn c.args.run c.args.prices.now) (search tests)

pub returns-then-high-gt-MOST_PRICE : goal.returns-then-high-gt-MOST_PRICE
unfolding all_of
returns-then-high-gt-MOST_PRICE c = rw (← contract_in_turn c.args.run c.args.prices.now) (search tests)

pub returns-then-not-is_between : goal.returns-then-not-is_between
unfolding all_of
returns-then-not-is_between c =
    let args = c.args in
    rw (← contract_in_turn args.run args.prices.now, asked_false c.is_between.ensures c.if-not-is_between.true) (search tests)

pub returns-then-run-lots : goal.returns-then-run-lots
unfolding all_of
returns-then-run-lots c =
    let args = c.args in
    rw (← contract_in_turn args.run args.prices.now, asked_true c.is_between.ensures c.if-not-is_between.false) (search tests)

pub returns : goal.returns
unfolding all_of
returns c =
    let args = c.args in
    rw (← contract_in_turn args.run args.prices.now, asked_true c.is_between.ensures c.if-not-is_between.false, ← c.is_between-2.ensures, and_true c.is_between-2.result)
    (search tests)
