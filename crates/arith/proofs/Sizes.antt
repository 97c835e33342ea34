-- Absolute sizes of integers. Assumes nothing.
use Prim.Native.Nat.{ℕ, zero, suc, ◌+◌, ◌*◌, ◌-◌, ◌≤◌}
use mathlib.Core.Path.{◌≡◌, refl}
use mathlib.Core.Bool.{Bool, true, false, cond}
use native.Mathlib.Omega.{arith}
use lib.Dec.{ltb}
use lib.IntN.{ℤ, pos, negsuc, nat_abs, neg_ℤ, sub_ℕ, ◌+ℤ◌, ◌*ℤ◌}
use borrow.Author.Tests.{ltb-true}
use Rattle.arith.specs.Ints.{when}
use Rattle.arith.proofs.Tests.{by_bool}

abs_difference : (a b : ℕ) → nat_abs (sub_ℕ a b) ≤ a + b
abs_difference a b =
    by_bool (λ t. nat_abs (cond t (negsuc (b - suc a)) (pos (a - b))) ≤ a + b) (ltb a b) (λ e. omega (arith, ltb-true a b e)) (λ e. omega arith)

pub abs_plus : (x y : ℤ) → nat_abs (x +ℤ y) ≤ nat_abs x + nat_abs y
abs_plus (pos a) (pos b) = omega arith
abs_plus (pos a) (negsuc b) = abs_difference a (suc b)
abs_plus (negsuc a) (pos b) = omega (arith, abs_difference b (suc a))
abs_plus (negsuc a) (negsuc b) = omega arith

pub abs_neg : (x : ℤ) → nat_abs (neg_ℤ x) ≡ nat_abs x
abs_neg (pos zero) = refl
abs_neg (pos (suc n)) = refl
abs_neg (negsuc n) = refl

pub abs_times : (x y : ℤ) → nat_abs (x *ℤ y) ≡ nat_abs x * nat_abs y
abs_times (pos a) (pos b) = refl
abs_times (pos a) (negsuc b) = abs_neg (pos (a * suc b))
abs_times (negsuc a) (pos b) = abs_neg (pos (suc a * b))
abs_times (negsuc a) (negsuc b) = refl

pub abs_when : (b : Bool) (w : ℤ) → nat_abs (when b w) ≤ nat_abs w
abs_when true w = omega arith
abs_when false w = omega arith
