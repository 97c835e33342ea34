-- Sides: the same side is the same, a side's number read back, lots with a side's sign. Assumes nothing.
use Prim.Native.Nat.{ℕ, ◌≤◌}
use mathlib.Core.Path.{◌≡◌, refl, sym}
use mathlib.Core.Bool.{true}
use native.Mathlib.Omega.{arith}
use lib.Dec.{eqb}
use lib.IntN.{pos, nat_abs}
use Rattle.arith.proofs.Sizes.{abs_neg}
use Rattle.arith.proofs.Tests.{never, same_or, and_right}
use Rattle.rules.specs.declared.order.Order.{Order}
use Rattle.rules.specs.declared.order.Side.{Side}
use Rattle.rules.specs.declared.order.Side.TheVariants.{Buy, Sell}
use Rattle.rules.specs.Sides.{side_number, side_of, same_side, other_side, signed}
use Rattle.rules.specs.Matching.{opposes}

pub same_side_lem : (a b : Side) → same_side a b ≡ true → a ≡ b
same_side_lem Buy Buy e = refl
same_side_lem Buy Sell e = never (sym e)
same_side_lem Sell Buy e = never (sym e)
same_side_lem Sell Sell e = refl

pub opposing_side : (o r : Order) → opposes o r ≡ true → r.side ≡ other_side o.side
unfolding opposes
opposing_side o r e = same_side_lem r.side (other_side o.side) (and_right (eqb r.contract o.contract) (same_side r.side (other_side o.side)) e)

pub side_again : (b : ℕ) → b ≤ 1 → side_number (side_of b) ≡ b
side_again b h = same_or b 0 (λ e. rw e refl) (λ n. let e : b ≡ 1 = omega arith in rw e refl)

pub abs_signed : (s : Side) (q : ℕ) → nat_abs (signed s q) ≡ q
abs_signed Buy q = refl
abs_signed Sell q = abs_neg (pos q)
