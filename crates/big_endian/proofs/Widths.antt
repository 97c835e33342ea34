-- Numbers of each width, read and written. Assumes nothing.
use Prim.Native.Nat.{ℕ}
use mathlib.Core.Path.{◌≡◌, refl}
use lib.ListN.{length}
use Rattle.rules.specs.Fields.{number_bytes}
use Rattle.rules.specs.Header.{u16_bytes, u32_bytes}
use Rattle.big_endian.specs.Width.{Width, one, two, four}

-- What is neither one byte nor two is four.
pub is_four : {w : ℕ} → Width w → (w ≡ 1 → ⊥) → (w ≡ 2 → ⊥) → w ≡ 4
is_four one a b = absurd (a refl)
is_four two a b = absurd (b refl)
is_four four a b = refl

pub number_wide : {w : ℕ} → Width w → (n : ℕ) → length (number_bytes w n) ≡ w
unfolding number_bytes u16_bytes u32_bytes
number_wide one n = refl
number_wide two n = refl
number_wide four n = refl
