-- The bits of an or, a window of signed numbers, and a wrapped difference. Assumes nothing.
use mathlib.Core.Path.{◌≡◌}
use mathlib.Core.Bool.{true, ◌&&◌, and_assoc}
use Prim.Native.Nat.{ℕ, suc, ◌+◌, ◌*◌, ◌-◌, ◌/◌, ◌%◌, ◌<◌, ◌≤◌, ◌^◌}
use native.Mathlib.Omega.{arith}
use borrow.Author.Tests.{le-leb, lt-ltb, le-ltb, leb-true, ltb-true}
use lib.Bits.{bit_or, bit_and, or_lt, or_add_and, and_le_l, and_le_r}
use lib.Dec.{leb, ltb}
use lib.Pow.{pow_mono, pow_pos}
use lib.IntN.{ℤ, pos, negsuc, nat_abs}
use lib.Signed.{mag}
use Rattle.arith.specs.Bits.{bits_of, in_window}
use Rattle.arith.proofs.Tests.{by_leb}

-- ---- an or is below a power of two exactly if both its parts are
both : (o a b h : ℕ) → a ≤ o → b ≤ o → (a < h → b < h → o < h) → ltb o h ≡ ltb a h && ltb b h
both o a b h p q k =
    by_leb (λ t. ltb o h ≡ t && ltb b h) (suc a) h
    (λ x. by_leb (λ t. ltb o h ≡ t) (suc b) h (λ y. lt-ltb o h (k x y)) (λ y. le-ltb o h (omega arith)))
    (λ x. le-ltb o h (omega arith))

left_le : (o n a b : ℕ) → o + n ≡ a + b → n ≤ b → a ≤ o
left_le o n a b e h = omega arith

pub or_below : (k a b : ℕ) → ltb (bit_or a b) (2 ^ k) ≡ ltb a (2 ^ k) && ltb b (2 ^ k)
or_below k a b =
    both (bit_or a b) a b (2 ^ k)
    (left_le (bit_or a b) (bit_and a b) a b (or_add_and a b) (and_le_r a b))
    (left_le (bit_or a b) (bit_and a b) b a (omega (arith, or_add_and a b)) (and_le_l a b))
    (or_lt k a b)

-- ---- a window around 0
-- The bits of x and half the window's width, wrapped, are below the width exactly if x is in the window.
pub window_is : (x : ℤ) (w : ℕ) → mag x < 2 ^ 63 → w ≤ 2 ^ 62 → ltb ((bits_of x + w / 2) % 2 ^ 64) w ≡ in_window w x
unfolding bits_of in_window
window_is (pos n) w h l = let whole : (n + w / 2) % 2 ^ 64 ≡ n + w / 2 = omega arith in rw whole
window_is (negsuc n) w h l =
    by_leb (λ t. ltb ((2 ^ 64 - suc n + w / 2) % 2 ^ 64) w ≡ t) (suc n) (w / 2)
    (λ y. lt-ltb ((2 ^ 64 - suc n + w / 2) % 2 ^ 64) w (omega arith))
    (λ y. le-ltb ((2 ^ 64 - suc n + w / 2) % 2 ^ 64) w (omega arith))

-- The or of such sums, one more number tested.
pub or_window : (k seen r half : ℕ) (x : ℤ) → (k ≤ 62) × (half ≡ 2 ^ k / 2) → mag x < 2 ^ 63 → r ≡ (bits_of x + half) % 2 ^ 64 → ltb (bit_or seen r) (2 ^ k) ≡ ltb seen (2 ^ k) && in_window (2 ^ k) x
or_window k seen r half x h fits e = rw (or_below k seen r, e, h.1, window_is x (2 ^ k) fits (pow_mono h.0))

pub or_windows : (k seen r s half : ℕ) (x y : ℤ) → (k ≤ 62) × (half ≡ 2 ^ k / 2) → mag x < 2 ^ 63 → r ≡ (bits_of x + half) % 2 ^ 64 → mag y < 2 ^ 63 → s ≡ (bits_of y + half) % 2 ^ 64
    → ltb (bit_or (bit_or seen r) s) (2 ^ k) ≡ ltb seen (2 ^ k) && (in_window (2 ^ k) x && in_window (2 ^ k) y)
or_windows k seen r s half x y h x_Fits x-is y-fits y-is =
    rw (or_window k (bit_or seen r) s half y h y-fits y-is, or_window k seen r half x h x_Fits x-is) (and_assoc (ltb seen (2 ^ k)) (in_window (2 ^ k) x) (in_window (2 ^ k) y))

pub none_below : (k : ℕ) → ltb 0 (2 ^ k) ≡ true
none_below k = lt-ltb 0 (2 ^ k) (pow_pos k)

-- What is in a window of at most 2 b + 1 numbers is within b.
pub window_within : (x : ℤ) (w b : ℕ) → w ≤ 2 * b + 1 → in_window w x ≡ true → leb (nat_abs x) b ≡ true
unfolding in_window
window_within (pos n) w b l e = let h = ltb-true (n + w / 2) w e in le-leb n b (omega arith)
window_within (negsuc n) w b l e = let h = leb-true (suc n) (w / 2) e in le-leb (suc n) b (omega arith)

-- ---- a wrapped difference
-- x from l up to e by one test: x - l, wrapped, is below e - l.
pub between : (x l e s : ℕ) → x < 2 ^ 64 → l ≤ e → e < 2 ^ 64 → (s + l) % 2 ^ 64 ≡ x → s < 2 ^ 64 → ltb s (e - l) ≡ leb l x && ltb x e
between x l e s h j k m f =
    by_leb (λ t. ltb s (e - l) ≡ t && ltb x e) l x
    (λ y.
    by_leb (λ t. ltb s (e - l) ≡ t) (suc x) e
    (λ z. lt-ltb s (e - l) (omega arith))
    (λ z. le-ltb s (e - l) (omega arith)))
    (λ y. le-ltb s (e - l) (omega arith))

-- x is at least l exactly if x - l, wrapped, is below 2 ^ 63, where both are.
pub falls : (x l s : ℕ) → x < 2 ^ 63 → l ≤ 2 ^ 63 → (s + l) % 2 ^ 64 ≡ x → s < 2 ^ 64 → ltb s (2 ^ 63) ≡ leb l x
falls x l s h k m f =
    by_leb (λ t. ltb s (2 ^ 63) ≡ t) l x
    (λ y. lt-ltb s (2 ^ 63) (omega arith))
    (λ y. le-ltb s (2 ^ 63) (omega arith))
