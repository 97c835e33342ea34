-- Numbers and lines as text, in ASCII.
use Rattle.std.specs.Prelude.{ℕ, zero, suc, ◌+◌, ◌/◌, ◌%◌, cond, ◌≡◌, refl, ltb, ℤ, pos, negsuc, nat_abs}
use mathlib.Core.List.{List, [], ◌∷◌, ◌++◌, flat_map}
use Rattle.std.specs.Int.Signed.{lt_z}

abbrev pub space : ℕ
space = 32

abbrev pub newline : ℕ
newline = 10

abbrev pub minus : ℕ
minus = 45

-- The digit of a number below 10.
abbrev pub digit : ℕ → ℕ
digit n = 48 + n

-- The digits of n, the first one first and with no zero in front; at most as many as the fuel.
unfoldable pub digits : ℕ → ℕ → List ℕ
digits zero n = []
digits (suc fuel) n = cond (ltb n 10) (digit n ∷ []) (digits fuel (n / 10) ++ (digit (n % 10) ∷ []))

unfoldable pub decimal : ℕ → List ℕ
decimal n = digits (suc n) n

-- A number below 0 has a minus in front of its digits.
unfoldable pub signed_decimal : ℤ → List ℕ
signed_decimal z = cond (lt_z z (pos 0)) (minus ∷ decimal (nat_abs z)) (decimal (nat_abs z))

-- A line: its letter, each field after a space, and the end of the line.
unfoldable pub line_text : ℕ → List (List ℕ) → List ℕ
line_text letter fields = letter ∷ (flat_map (λ field. space ∷ field) fields ++ (newline ∷ []))

-- "D 1 17 -3 26000"
deal_line_lem : line_text 68 (decimal 1 ∷ decimal 17 ∷ signed_decimal (negsuc 2) ∷ decimal 26000 ∷ [])
    ≡ 68 ∷ 32 ∷ 49 ∷ 32 ∷ 49 ∷ 55 ∷ 32 ∷ 45 ∷ 51 ∷ 32 ∷ 50 ∷ 54 ∷ 48 ∷ 48 ∷ 48 ∷ 10 ∷ []
unfolding line_text flat_map decimal signed_decimal digits
deal_line_lem = refl

-- 0 has one digit; no plus stands in front.
zero_and_one : decimal 0 ++ (signed_decimal (pos 1) ++ signed_decimal (pos 0)) ≡ 48 ∷ 49 ∷ 48 ∷ []
unfolding decimal signed_decimal digits
zero_and_one = refl
