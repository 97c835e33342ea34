-- The digits of a number by the cases of their writers: how many they are, and that they read back as the number. Assumes nothing.
use Prim.Native.Nat.{ℕ, zero, suc, ◌+◌, ◌*◌, ◌-◌, ◌/◌, ◌%◌, ◌^◌, ◌≤◌, ◌<◌}
use mathlib.Core.Bool.{Bool, cond, true, false}
use mathlib.Core.List.{List, [], ◌∷◌, ◌++◌}
use mathlib.Core.Path.{◌≡◌, refl, ap}
use native.Mathlib.Omega.{arith}
use borrow.Author.Tests.{lt-ltb, le-ltb, ltb-true, ltb-false}
use lib.Dec.{ltb}
use lib.IntN.{ℤ, pos, negsuc, nat_abs}
use lib.Signed.{mag, lt_z}
use lib.ListN.{length, length-append}
use mir.Syntax.{w64}
use mir.Val.{SFits}
use mir.Facts.{to_z-of_z}
use Rattle.arith.proofs.Signed.{rd}
use Rattle.arith.proofs.Tests.{true_or}
use Rattle.rules.specs.Text.{digit, digits, decimal, signed_decimal, minus}
use Rattle.text.specs.Wrote.{Wrote}
use Rattle.text.proofs.Writing.{then}

-- ---- fuel that suffices
branch : {A : Type 0} (b : Bool) (x y z : A) → (b ≡ false → y ≡ z) → cond b x y ≡ cond b x z
branch true x y z h = refl
branch false x y z h = h refl

fuel : (f g n : ℕ) → n < f → n < g → digits f n ≡ digits g n
unfolding digits
fuel zero g n h k = absurd (omega arith)
fuel (suc f) zero n h k = absurd (omega arith)
fuel (suc f) (suc g) n h k =
    branch (ltb n 10) _ _ _ (λ e. rw (fuel f g (n / 10) (omega (arith, ltb-false n 10 e)) (omega (arith, ltb-false n 10 e))) refl)

pub decimal_small : (n : ℕ) → n < 10 → decimal n ≡ digit n ∷ []
unfolding decimal digits
decimal_small n h = rw (lt-ltb n 10 h) refl

pub decimal_more : (n : ℕ) → 10 ≤ n → decimal n ≡ decimal (n / 10) ++ (digit (n % 10) ∷ [])
unfolding decimal digits
decimal_more n h = rw (le-ltb n 10 h, fuel n (suc (n / 10)) (n / 10) (omega arith) (omega arith)) refl

-- ---- as many digits as the power of ten says
pub decimal_short : (k n : ℕ) → n < 10 ^ suc k → length (decimal n) ≤ suc k
decimal_short zero n h = rw (decimal_small n (omega arith)) (omega arith)
decimal_short (suc k) n h =
    true_or (ltb n 10)
    (λ e. rw (decimal_small n (ltb-true n 10 e)) (omega arith))
    (λ e. let t : 10 ≤ n = ltb-false n 10 e in
    let less : n / 10 < 10 ^ suc k = omega arith in
    rw (decimal_more n t, length-append (decimal (n / 10)) (digit (n % 10) ∷ [])) (omega (arith, decimal_short k (n / 10) less)))

-- A u64 has at most 20 digits, an i64 with its sign too.
pub decimal_20 : (n : ℕ) → n < 2 ^ 64 → length (decimal n) ≤ 20
decimal_20 n h = decimal_short 19 n (omega arith)

signed_below : (z : ℤ) → lt_z z (pos 0) ≡ true → signed_decimal z ≡ minus ∷ decimal (nat_abs z)
unfolding signed_decimal
signed_below z e = rw e refl

signed_other : (z : ℤ) → lt_z z (pos 0) ≡ false → signed_decimal z ≡ decimal (nat_abs z)
unfolding signed_decimal
signed_other z e = rw e refl

pub signed_20 : (z : ℤ) → mag z < 2 ^ 63 → length (signed_decimal z) ≤ 20
signed_20 (pos n) h = rw (signed_other (pos n) (le-ltb n 0 (omega arith))) (omega (arith, decimal_short 18 n (omega arith)))
signed_20 (negsuc n) h = rw (signed_below (negsuc n) refl) (omega (arith, decimal_short 18 (suc n) (omega arith)))

-- ---- the digits read back
-- The number that digits say.
unfoldable pub read_digits : ℕ → List ℕ → ℕ
read_digits v [] = v
read_digits v (d ∷ ds) = read_digits (v * 10 + (d - digit 0)) ds

last_digit : (v d : ℕ) (xs : List ℕ) → read_digits v (xs ++ (d ∷ [])) ≡ read_digits v xs * 10 + (d - digit 0)
unfolding read_digits
last_digit v d [] = refl
last_digit v d (x ∷ xs) = last_digit (v * 10 + (x - digit 0)) d xs

one_digit : (d : ℕ) → read_digits 0 (digit d ∷ []) ≡ d
unfolding read_digits
one_digit d = omega arith

reads_back : (f n : ℕ) → n < f → read_digits 0 (digits f n) ≡ n
unfolding digits
reads_back zero n h = absurd (omega arith)
reads_back (suc f) n h =
    true_or (ltb n 10)
    (λ e. rw e (one_digit n))
    (λ e. let t : 10 ≤ n = ltb-false n 10 e in
    rw (e, last_digit 0 (digit (n % 10)) (digits f (n / 10)), reads_back f (n / 10) (omega arith)) (omega arith))

pub decimal_reads_back : (n : ℕ) → read_digits 0 (decimal n) ≡ n
unfolding decimal
decimal_reads_back n = reads_back (suc n) n (omega arith)

-- ---- the writer of digits
module _ (n a : ℕ) where
  more_length : 10 ≤ n → length (decimal n) ≡ length (decimal (n / 10)) + 1
  more_length h = rw (decimal_more n h) (length-append (decimal (n / 10)) (digit (n % 10) ∷ []))

  pub room_small : {k : ℕ} → n < 10 → a + length (decimal n) ≤ k → a < k
  room_small h r = let e : length (decimal n) ≡ 1 = ap length (decimal_small n h) in omega arith

  pub room_more : {k : ℕ} → 10 ≤ n → a + length (decimal n) ≤ k → a + length (decimal (n / 10)) < k
  room_more h r = omega (arith, more_length h)

  pub wrote_small : {l m : List ℕ} {r : ℕ} → n < 10 → Wrote a (digit n ∷ []) l m r → Wrote a (decimal n) l m r
  wrote_small h w = rw (decimal_small n h) w

  pub wrote_more : {b c : ℕ} {l m k : List ℕ} → 10 ≤ n → a + length (decimal n) ≤ length l
      → Wrote a (decimal (n / 10)) l m b → Wrote b (digit (n % 10) ∷ []) m k c → Wrote a (decimal n) l k c
  wrote_more h r p q = rw (decimal_more n h) (then p q (omega (arith, more_length h)))

-- ---- the writer of a signed number, as a machine's number is tested; s is its size
module _ (z : ℤ) (f : SFits w64 z) (s : ℕ) (e : s ≡ nat_abs (rd z)) (a : ℕ) where
  module _ (t : lt_z (rd z) (pos 0) ≡ true) where
    is_below : signed_decimal z ≡ minus ∷ decimal s
    is_below = rw (e, to_z-of_z f) (signed_below z (rw (to_z-of_z f) at t))

    pub room_below : {k : ℕ} → a + length (signed_decimal z) ≤ k → (a + 1) + length (decimal s) ≤ k
    room_below h = let g : length (signed_decimal z) ≡ suc (length (decimal s)) = ap length is_below in omega arith

    pub wrote_below : {b c : ℕ} {l m k : List ℕ} → a + length (signed_decimal z) ≤ length l → Wrote a (minus ∷ []) l m b → Wrote b (decimal s) m k c → Wrote a (signed_decimal z) l k c
    wrote_below h p q = rw is_below (then p q (omega (arith, room_below h)))

  module _ (t : lt_z (rd z) (pos 0) ≡ false) where
    is_other : signed_decimal z ≡ decimal s
    is_other = rw (e, to_z-of_z f) (signed_other z (rw (to_z-of_z f) at t))

    pub room_other : {k : ℕ} → a + length (signed_decimal z) ≤ k → a + length (decimal s) ≤ k
    room_other h = rw is_other at h

    pub wrote_other : {c : ℕ} {l k : List ℕ} → Wrote a (decimal s) l k c → Wrote a (signed_decimal z) l k c
    wrote_other p = rw is_other p

-- What a call was handed.
pub as_read : (z : ℤ) → SFits w64 z → {a r : ℕ} {l m : List ℕ} → Wrote a (signed_decimal (rd z)) l m r → Wrote a (signed_decimal z) l m r
as_read z f w = rw (to_z-of_z f) at w
