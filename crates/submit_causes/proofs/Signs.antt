-- Net lots as the machine has them. Assumes nothing.
use mathlib.Core.Path.{◌≡◌, sym, ap, ◌∙◌}
use Prim.Native.Nat.{ℕ, ◌+◌, ◌<◌, ◌^◌}
use native.Mathlib.Omega.{arith}
use lib.IntN.{ℤ, pos, nat_abs, neg_ℤ, ◌+ℤ◌, ◌-ℤ◌, +ℤ_idl}
use mir.Syntax.{w64}
use mir.Val.{SFits, to_z}
use Rattle.arith.proofs.Signed.{rd, back, rd_pos, sfits_abs, add_is}
use Rattle.arith.proofs.Sizes.{abs_neg}

module _ (z : ℤ) (h : nat_abs z < 2 ^ 63) where
  opposite : pos 0 -ℤ rd z ≡ neg_ℤ z
  opposite = rw (back z h) (+ℤ_idl (neg_ℤ z))

  pub opposite_ok : SFits w64 (pos 0 -ℤ rd z)
  opposite_ok = rw opposite (sfits_abs (neg_ℤ z) (omega (arith, abs_neg z)))

  pub opposite_is : rd (pos 0 -ℤ rd z) ≡ neg_ℤ z
  opposite_is = rw opposite (back (neg_ℤ z) (omega (arith, abs_neg z)))

pub sum_is : (z : ℤ) (n : ℕ) → nat_abs z + n < 2 ^ 63 → rd (rd z +ℤ to_z w64 n) ≡ z +ℤ pos n
sum_is z n h = ap (λ y. rd (rd z +ℤ y)) (rd_pos n (omega arith) ∙ sym (back (pos n) (omega arith))) ∙ add_is z (pos n) h
