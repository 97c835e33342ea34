-- Signed numbers as the machine has them: their 64 bits, read as an unsigned number.
use Rattle.std.specs.Prelude.{ℕ, suc, ◌+◌, ◌-◌, ◌/◌, ◌^◌, Bool, leb, ltb, ℤ, pos, negsuc}

unfoldable pub bits_of : ℤ → ℕ
bits_of (pos n) = n
bits_of (negsuc n) = 2 ^ 64 - suc n

-- z is one of the w numbers around 0: half of them below it.
unfoldable pub in_window : ℕ → ℤ → Bool
in_window w (pos n) = ltb (n + w / 2) w
in_window w (negsuc n) = leb (suc n) (w / 2)
