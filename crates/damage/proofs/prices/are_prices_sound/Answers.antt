use Rattle.std.proofs.Common.{◌≡◌, ◌+◌, ◌-◌, ◌*◌, true, refl, arith, length-drop, length-take}
use Rattle.arith.proofs.Tests.{asked_true, asked_false}
use Rattle.arith.specs.Lists.{every_block}
use Rattle.arith.proofs.Scans.{block_end, pass_block, stop_block}
use Rattle.rules.specs.Ledger.{price_width}
use Rattle.rules.specs.Ranges.{contract_count}
use Rattle.rules.specs.Refusals.{contract_prices_sound}
use Rattle.damage.proofs.prices.are_prices_sound.Goals as goal

pub loop-contract-init : goal.loop-contract-init
loop-contract-init c = refl

pub is_contract_sound-requires : goal.is_contract_sound-requires
is_contract_sound-requires c = (simp (length-take, length-drop) (omega arith), omega arith)

pub returns-then-not-is_contract_sound : goal.returns-then-not-is_contract_sound
returns-then-not-is_contract_sound c =
    let a = c.args in
    let cut : c.loop-contract.contract * price_width + 5 - c.loop-contract.contract * price_width ≡ 5 = omega arith in
    stop_block 5 (contract_prices_sound a.run) contract_count a.prices.now c.loop-contract.contract (every_block 5 (contract_prices_sound a.run) contract_count a.prices.now) c.loop-contract.invariant c.loop-contract-test.true
    (asked_false (rw cut at c.is_contract_sound.ensures) c.if-not-is_contract_sound.true)

pub loop-contract-preserved : goal.loop-contract-preserved
loop-contract-preserved c =
    let a = c.args in
    let cut : c.loop-contract.contract * price_width + 5 - c.loop-contract.contract * price_width ≡ 5 = omega arith in
    pass_block 5 (contract_prices_sound a.run) contract_count a.prices.now c.loop-contract.contract (every_block 5 (contract_prices_sound a.run) contract_count a.prices.now) c.loop-contract.invariant
    c.loop-contract-test.true
    (asked_true (rw cut at c.is_contract_sound.ensures) c.if-not-is_contract_sound.false)

pub returns : goal.returns
returns c =
    let a = c.args in
    block_end 5 (contract_prices_sound a.run) contract_count a.prices.now c.loop-contract.contract true (every_block 5 (contract_prices_sound a.run) contract_count a.prices.now) c.loop-contract.invariant
    c.loop-contract-test.false
