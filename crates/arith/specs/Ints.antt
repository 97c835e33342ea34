-- Integers: the definitions that the rules use.
use Rattle.std.specs.Prelude.{ℕ, zero, suc, Bool, cond, ℤ, pos, negsuc, ◌+ℤ◌}

-- w where the test passes, and nothing else
abbrev pub when : Bool → ℤ → ℤ
when b w = cond b w (pos 0)

-- the sum of f over 0 .. n - 1
unfoldable pub sum : ℕ → (ℕ → ℤ) → ℤ
sum zero f = pos 0
sum (suc n) f = sum n f +ℤ f n

-- how far an integer lies above 0, and how far below: one of the two is 0
unfoldable pub up : ℤ → ℕ
up (pos n) = n
up (negsuc n) = 0

unfoldable pub dn : ℤ → ℕ
dn (pos n) = 0
dn (negsuc n) = suc n
