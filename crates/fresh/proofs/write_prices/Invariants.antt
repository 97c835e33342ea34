use mathlib.Core.Path.{◌≡◌}
use mathlib.Core.List.{[], ◌∷◌}
use Rattle.arith.specs.Lists.{in_each_block}
use Rattle.rules.specs.Ranges.{most_price}
use Rattle.fresh.proofs.write_prices.Given as goal

abbrev pub invariant-loop-contract : goal.invariant-loop-contract
invariant-loop-contract l = l.prices ≡ in_each_block 5 (λ five. 0 ∷ 1 ∷ most_price ∷ 0 ∷ 0 ∷ []) l.contract l.initial.prices
