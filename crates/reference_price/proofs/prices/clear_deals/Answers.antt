use lib.ListN.{set}
use mathlib.Core.Path.{◌≡◌, refl, ◌∙◌}
use mathlib.Core.List.{List, [], ◌∷◌}
use Prim.Native.Nat.{ℕ, suc, ◌+◌, ◌*◌}
use native.Mathlib.Omega.{arith}
use native.Mathlib.Numerals.{add-one}
use lib.ListN.{length-set}
use Rattle.arith.specs.Lists.{over, in_each_block}
use Rattle.arith.proofs.Writes.{stored}
use Rattle.rules.specs.Ledger.{price_width}
use Rattle.rules.specs.Ranges.{contract_count}
use Rattle.rules.specs.CloseOfDay.{without_deals}
use Rattle.reference_price.proofs.Blocks.{inside_written}
use Rattle.reference_price.proofs.prices.clear_deals.Goals as goal

pub loop-contract-init : goal.loop-contract-init
unfolding in_each_block
loop-contract-init c = (refl, refl)

pub loop-contract-preserved : goal.loop-contract-preserved
loop-contract-preserved c =
    let d = c.args.prices.now in
    let none : List ℕ = 0 ∷ 0 ∷ [] in
    let at = c.loop-contract.contract * price_width in
    let next : at + 4 ≡ suc (at + 3) = omega arith in
    let both : set (set c.loop-contract.prices (at + 3) 0) (at + 4) 0 ≡ over (at + 3) none c.loop-contract.prices = rw next (stored none c.loop-contract.prices (at + 3) (omega arith)) in (
      simp length-set (omega arith),
      both ∙ rw (c.loop-contract.invariant.1, add-one c.loop-contract.contract) (inside_written 5 3 none (omega arith) c.loop-contract.contract d (omega arith)),
    )

pub returns : goal.returns
unfolding without_deals
returns c = let e : c.loop-contract.contract ≡ contract_count = omega arith in rw e at c.loop-contract.invariant.1
