-- Signed numbers as the machine has them: `rd z` is z read back from its 64 bits. Assumes nothing.
use mathlib.Core.Path.{◌≡◌}
use Prim.Native.Nat.{ℕ, ◌+◌, ◌<◌, ◌^◌}
use native.Mathlib.Omega.{arith}
use lib.IntN.{ℤ, pos, negsuc, nat_abs, neg_ℤ, ◌+ℤ◌, ◌-ℤ◌, +ℤ_idl}
use lib.Signed.{mag}
use mir.Syntax.{w64}
use mir.Val.{SFits, to_z, of_z}
use mir.Facts.{to_z-of_z, to_z_pos}
use Rattle.arith.proofs.Sizes.{abs_plus, abs_neg}

abbrev pub rd : ℤ → ℤ
rd z = to_z w64 (of_z w64 z)

pub sfits_abs : (z : ℤ) → nat_abs z < 2 ^ 63 → SFits w64 z
sfits_abs (pos n) h = record { sfits = h }
sfits_abs (negsuc n) h = record { sfits = omega arith }

pub back : (z : ℤ) → nat_abs z < 2 ^ 63 → rd z ≡ z
back z h = to_z-of_z (sfits_abs z h)

-- An element that was read: what its slice says of it is its bound.
pub back_mag : (z : ℤ) → mag z < 2 ^ 63 → rd z ≡ z
back_mag z h = to_z-of_z {w = w64} {z = z} (record { sfits = h })

pub rd_pos : (n : ℕ) → n < 2 ^ 63 → to_z w64 n ≡ pos n
rd_pos n h = to_z_pos w64 h

-- ---- -n, and whether x lies from -n to n
minus : (n : ℕ) → n < 2 ^ 63 → pos 0 -ℤ to_z w64 n ≡ neg_ℤ (pos n)
minus n h = rw (rd_pos n h) (+ℤ_idl (neg_ℤ (pos n)))

pub neg_ok : (n : ℕ) → n < 2 ^ 63 → SFits w64 (pos 0 -ℤ to_z w64 n)
neg_ok n h = rw (minus n h) (sfits_abs (neg_ℤ (pos n)) (omega (arith, abs_neg (pos n))))

pub neg_is : (n : ℕ) → n < 2 ^ 63 → rd (pos 0 -ℤ to_z w64 n) ≡ neg_ℤ (pos n)
neg_is n h = rw (minus n h) (back (neg_ℤ (pos n)) (omega (arith, abs_neg (pos n))))

-- ---- sums
module _ (x y : ℤ) (h : nat_abs x + nat_abs y < 2 ^ 63) where
  pub add_ok : SFits w64 (rd x +ℤ rd y)
  add_ok = simp (back x (omega arith), back y (omega arith)) (sfits_abs (x +ℤ y) (omega (arith, abs_plus x y)))

  pub add_is : rd (rd x +ℤ rd y) ≡ x +ℤ y
  add_is = simp (back x (omega arith), back y (omega arith)) (back (x +ℤ y) (omega (arith, abs_plus x y)))
