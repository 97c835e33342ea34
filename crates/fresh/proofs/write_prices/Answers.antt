use native.Mathlib.Nat.{add-zero}
use native.Mathlib.Omega.{arith}
use native.Mathlib.Numerals.{add-one, add-two, add-three, add-four}
use mathlib.Core.Path.{◌≡◌, refl, ◌∙◌}
use mathlib.Core.List.{List, [], ◌∷◌}
use Prim.Native.Nat.{ℕ, ◌*◌}
use lib.ListN.{take, drop, length-set, length-take}
use Rattle.arith.specs.Lists.{in_each_block}
use Rattle.rules.specs.Ledger.{price_width}
use Rattle.rules.specs.Ranges.{contract_count, most_price}
use Rattle.rules.specs.Ledger.{fresh_prices}
use Rattle.arith.proofs.Writes.{stored, over_all, block_written}
use Rattle.fresh.proofs.write_prices.Goals as goal

pub loop-contract-init : goal.loop-contract-init
unfolding in_each_block
loop-contract-init c = refl

pub bounds-prices-at-in-loop-contract : goal.bounds-prices-at-in-loop-contract
bounds-prices-at-in-loop-contract c = simp length-set (omega arith)

pub bounds-prices-at-in-loop-contract-2 : goal.bounds-prices-at-in-loop-contract-2
bounds-prices-at-in-loop-contract-2 c = simp length-set (omega arith)

pub bounds-prices-at-in-loop-contract-3 : goal.bounds-prices-at-in-loop-contract-3
bounds-prices-at-in-loop-contract-3 c = simp length-set (omega arith)

pub bounds-prices-at-in-loop-contract-4 : goal.bounds-prices-at-in-loop-contract-4
bounds-prices-at-in-loop-contract-4 c = simp length-set (omega arith)

pub loop-contract-preserved : goal.loop-contract-preserved
loop-contract-preserved c =
    let d = c.args.prices.now in
    let l = c.loop-contract in
    let at = l.contract * price_width in
    let five : List ℕ = 0 ∷ 1 ∷ most_price ∷ 0 ∷ 0 ∷ [] in
    let block = take 5 (drop at d) in
    rw (add-zero at, add-one at, add-two at, add-three at, add-four at, add-one l.contract) (stored five l.prices at (omega arith)
    ∙ rw l.invariant (block_written 5 (λ x. five) (λ x e. refl) five l.contract d (over_all five block (omega (arith, length-take 5 (drop at d)))) (omega arith) (omega arith)))

pub returns : goal.returns
unfolding fresh_prices
returns c = let l = c.loop-contract in let e : l.contract ≡ contract_count = omega arith in rw e at l.invariant

pub bounds-prices-at : goal.bounds-prices-at
bounds-prices-at c = omega arith
