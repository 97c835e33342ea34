-- A place of a contract and side. Assumes nothing.
use mathlib.Core.Path.{◌≡◌}
use mathlib.Core.Bool.{◌&&◌}
use Prim.Native.Nat.{ℕ, ◌+◌, ◌*◌, ◌≤◌}
use native.Mathlib.Omega.{arith}
use lib.Dec.{eqb}
use borrow.Author.Tests.{eq-eqb, ne_eqb}
use Rattle.arith.proofs.Tests.{by_eqb}
use Rattle.rules.specs.declared.order.Side.{Side}
use Rattle.rules.specs.declared.order.Side.TheVariants.{Buy, Sell}
use Rattle.rules.specs.Sides.{same_side, side_number}
use Rattle.proposal_check.specs.SidePlaces.{side_place}

pub side_below : (s : Side) → side_number s ≤ 1
side_below Buy = omega arith
side_below Sell = omega arith

-- A place is that of one contract and one side.
pub place_same : (c y : ℕ) (u s : Side) → eqb (side_place c u) (side_place y s) ≡ same_side u s && eqb y c
place_same c y Buy Buy = by_eqb (λ b. eqb (c * 2 + 0) (y * 2 + 0) ≡ b) y c (λ e. eq-eqb (c * 2 + 0) (y * 2 + 0) (omega arith)) (λ d. ne_eqb (c * 2 + 0) (y * 2 + 0) (λ e. d (omega arith)))
place_same c y Buy Sell = ne_eqb (c * 2 + 0) (y * 2 + 1) (λ e. omega arith)
place_same c y Sell Buy = ne_eqb (c * 2 + 1) (y * 2 + 0) (λ e. omega arith)
place_same c y Sell Sell = by_eqb (λ b. eqb (c * 2 + 1) (y * 2 + 1) ≡ b) y c (λ e. eq-eqb (c * 2 + 1) (y * 2 + 1) (omega arith)) (λ d. ne_eqb (c * 2 + 1) (y * 2 + 1) (λ e. d (omega arith)))
