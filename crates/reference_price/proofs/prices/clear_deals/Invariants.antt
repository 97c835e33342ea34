use mathlib.Core.Path.{◌≡◌}
use mathlib.Core.List.{[], ◌∷◌}
use lib.ListN.{length}
use Rattle.arith.specs.Lists.{over, in_each_block}
use Rattle.reference_price.proofs.prices.clear_deals.Given as goal

abbrev pub invariant-loop-contract : goal.invariant-loop-contract
invariant-loop-contract l = (length l.prices ≡ length l.initial.prices) × (l.prices ≡ in_each_block 5 (over 3 (0 ∷ 0 ∷ [])) l.contract l.initial.prices)
