use Rattle.std.proofs.Common.{◌≡◌, ◌-◌, ◌*◌, drop}
use Rattle.arith.specs.Lists.{every_block}
use Rattle.rules.specs.Ledger.{price_width}
use Rattle.rules.specs.Ranges.{contract_count}
use Rattle.rules.specs.Refusals.{contract_prices_sound}
use Rattle.damage.proofs.prices.are_prices_sound.Given as goal

abbrev pub invariant-loop-contract : goal.invariant-loop-contract
invariant-loop-contract l = every_block 5 (contract_prices_sound l.run) (contract_count - l.contract) (drop (l.contract * price_width) l.prices)
    ≡ every_block 5 (contract_prices_sound l.run) contract_count l.prices
