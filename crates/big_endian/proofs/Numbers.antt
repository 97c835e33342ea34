-- Big-endian numbers written and read back, and read and written again. Assumes nothing.
use Prim.Native.Nat.{ℕ, zero, suc, ◌+◌, ◌*◌, ◌/◌, ◌%◌, ◌≤◌, ◌<◌}
use mathlib.Core.List.{List, [], ◌∷◌, ◌++◌, map, flat_map, append_assoc}
use mathlib.Core.Path.{◌≡◌, refl, sym, ap, ◌∙◌, subst}
use native.Mathlib.Nat.{add-zero, mul-suc, mul-zero}
use native.Mathlib.Numerals.{add-one}
use native.Mathlib.Omega.{arith}
use borrow.Author.Tests.{ltb-true}
use lib.Dec.{T, ltb}
use lib.ListN.{length, get_or, drop, length-append, drop_of_length-le}
use lib.Seq.{get_or-append-add, drop-cons}
use Rattle.arith.specs.Lists.{All, from, every}
use Rattle.arith.proofs.Blocks.{map_from_suc, map_same}
use Rattle.arith.proofs.Tests.{and_left, and_right, passed, passes}
use Rattle.rules.specs.Header.{u16_at, u32_at, u16_bytes, u32_bytes}

pub u16_wide : (n : ℕ) → length (u16_bytes n) ≡ 2
unfolding u16_bytes
u16_wide n = refl

pub u32_wide : (n : ℕ) → length (u32_bytes n) ≡ 4
unfolding u16_bytes u32_bytes
u32_wide n = refl

-- The bytes of what is left of a number that may be larger.
pub low_u16 : (m n : ℕ) → m ≡ n % 65536 → m / 256 % 256 ∷ m % 256 ∷ [] ≡ u16_bytes n
unfolding u16_bytes
low_u16 m n e =
    let high : m / 256 % 256 ≡ n / 256 % 256 = omega arith in
    let low : m % 256 ≡ n % 256 = omega arith in
    rw (high, low) refl

pub low_u32 : (m n : ℕ) → m ≡ n % 4294967296 → m / 16777216 % 256 ∷ m / 65536 % 256 ∷ m / 256 % 256 ∷ m % 256 ∷ [] ≡ u32_bytes n
unfolding u16_bytes u32_bytes
low_u32 m n e =
    let first : m / 16777216 % 256 ≡ n / 65536 / 256 % 256 = omega arith in
    let second : m / 65536 % 256 ≡ n / 65536 % 256 = omega arith in
    let third : m / 256 % 256 ≡ n % 65536 / 256 % 256 = omega arith in
    let last : m % 256 ≡ n % 65536 % 256 = omega arith in
    rw (first, second, third, last) refl

-- ---- written, then read
module _ (p q : List ℕ) (i : ℕ) (e : i ≡ length p) where
  pub u16_back : (v : ℕ) → v < 65536 → u16_at (p ++ (u16_bytes v ++ q)) i ≡ v
  unfolding u16_at u16_bytes
  u16_back v h =
      let bytes : List ℕ = v / 256 % 256 ∷ v % 256 ∷ q in
      let first : get_or (p ++ bytes) i 0 ≡ v / 256 % 256 = rw (e, ← add-zero (length p)) (get_or-append-add p bytes 0 0) in
      let second : get_or (p ++ bytes) (i + 1) 0 ≡ v % 256 = rw e (get_or-append-add p bytes 1 0) in
      rw (first, second) (omega arith)

pub u32_back : (p q : List ℕ) (i : ℕ) → i ≡ length p → (v : ℕ) → v < 4294967296 → u32_at (p ++ (u32_bytes v ++ q)) i ≡ v
unfolding u32_at u32_bytes
u32_back p q i e v h =
    let high = u16_bytes (v / 65536) in
    let low = u16_bytes (v % 65536) in
    let first : u16_at (p ++ (high ++ (low ++ q))) i ≡ v / 65536 = u16_back p (low ++ q) i e (v / 65536) (omega arith) in
    let second : u16_at (p ++ (high ++ (low ++ q))) (i + 2) ≡ v % 65536 =
    rw (← append_assoc p high (low ++ q)) (u16_back (p ++ high) q (i + 2) (rw e (sym (length-append p high ∙ ap (λ k. length p + k) (u16_wide (v / 65536))))) (v % 65536) (omega arith)) in
    rw (append_assoc high low q, first, second) (omega arith)

-- things of one width, one after the other: each is read where it stands
module _ {B : Type 0} (bytes : B → List ℕ) (w : ℕ) (wide : (b : B) → length (bytes b) ≡ w) (read : List ℕ → ℕ → B) (Good : B → Type 0)
    (here : (p q : List ℕ) (i : ℕ) → i ≡ length p → (b : B) → Good b → read (p ++ (bytes b ++ q)) i ≡ b) where
  pub all_back : (bs : List B) (p q : List ℕ) (i : ℕ) → i ≡ length p → All Good bs → map (λ j. read (p ++ (flat_map bytes bs ++ q)) (i + w * j)) (from 0 (length bs)) ≡ bs
  unfolding from flat_map
  all_back [] p q i e g = refl
  all_back (b ∷ bs) p q i e g =
      let rest = flat_map bytes bs ++ q in
      let shape : flat_map bytes (b ∷ bs) ++ q ≡ bytes b ++ rest = append_assoc (bytes b) (flat_map bytes bs) q in
      let first : read (p ++ (bytes b ++ rest)) (i + w * 0) ≡ b = rw (mul-zero, add-zero) (here p rest i e b g.0) in
      let step : (j : ℕ) → i + w * suc j ≡ i + w + w * j = λ j. rw mul-suc (omega arith) in
      let later : map (λ j. read (p ++ (bytes b ++ rest)) (i + w * suc j)) (from 0 (length bs)) ≡ bs =
      map_same (λ j. read (p ++ (bytes b ++ rest)) (i + w * suc j)) (λ j. read ((p ++ bytes b) ++ rest) (i + w + w * j)) (from 0 (length bs))
      (λ j. rw (step j, append_assoc p (bytes b) rest) refl)
      ∙ all_back bs (p ++ bytes b) q (i + w) (rw (length-append, wide b, e) refl) g.1 in
      subst (λ s. map (λ j. read (p ++ s) (i + w * j)) (from 0 (length (b ∷ bs))) ≡ b ∷ bs) (sym shape)
      (rw first (ap (λ r. b ∷ r) (map_from_suc (λ j. read (p ++ (bytes b ++ rest)) (i + w * j)) 0 (length bs) ∙ later)))

-- ---- read, then written
pub bytes_small : (s : List ℕ) → T (every (λ b. ltb b 256) s) → (i : ℕ) → get_or s i 0 < 256
unfolding every
bytes_small [] t i = omega arith
bytes_small (x ∷ s) t zero = ltb-true x 256 (and_left (ltb x 256) (every (λ b. ltb b 256) s) (passed _ t))
bytes_small (x ∷ s) t (suc i) = bytes_small s (passes _ (and_right (ltb x 256) (every (λ b. ltb b 256) s) (passed _ t))) i

module _ (s : List ℕ) (small : (i : ℕ) → get_or s i 0 < 256) where
  pub u8_again : (i : ℕ) → i < length s → get_or s i 0 ∷ drop (i + 1) s ≡ drop i s
  u8_again i h = rw add-one (sym (drop-cons s i 0 h))

  pub u16_again : (i : ℕ) → i + 2 ≤ length s → u16_bytes (u16_at s i) ++ drop (i + 2) s ≡ drop i s
  unfolding u16_at u16_bytes
  u16_again i h =
      let a = small i in
      let b = small (i + 1) in
      let high : (get_or s i 0 * 256 + get_or s (i + 1) 0) / 256 % 256 ≡ get_or s i 0 = omega arith in
      let low : (get_or s i 0 * 256 + get_or s (i + 1) 0) % 256 ≡ get_or s (i + 1) 0 = omega arith in
      let place : i + 1 + 1 ≡ i + 2 = omega arith in
      rw (high, low, ← place, u8_again (i + 1) (omega arith), u8_again i (omega arith)) refl

  pub u16_small : (i : ℕ) → u16_at s i < 65536
  unfolding u16_at
  u16_small i = omega (arith, small i, small (i + 1))

  pub u32_again : (i : ℕ) → i + 4 ≤ length s → u32_bytes (u32_at s i) ++ drop (i + 4) s ≡ drop i s
  unfolding u32_at u32_bytes
  u32_again i h =
      let a = u16_small i in
      let b = u16_small (i + 2) in
      let high : (u16_at s i * 65536 + u16_at s (i + 2)) / 65536 ≡ u16_at s i = omega arith in
      let low : (u16_at s i * 65536 + u16_at s (i + 2)) % 65536 ≡ u16_at s (i + 2) = omega arith in
      let place : i + 2 + 2 ≡ i + 4 = omega arith in
      rw (high, low, append_assoc, ← place, u16_again (i + 2) (omega arith), u16_again i (omega arith)) refl

  pub none_past : (k : ℕ) → length s ≡ k → drop k s ≡ []
  none_past k l = drop_of_length-le s {i = k} (omega arith)

  -- the first byte, by what it is
  pub u8_first : (k : ℕ) → get_or s 0 0 ≡ k → 0 < length s → k ∷ drop 1 s ≡ s
  u8_first k e h = ap (λ x. x ∷ drop 1 s) (sym e) ∙ u8_again 0 h

-- things of one width, one after the other
module _ {B : Type 0} (bytes : B → List ℕ) (w : ℕ) (read : List ℕ → ℕ → B) (s : List ℕ)
    (again : (i : ℕ) → i + w ≤ length s → bytes (read s i) ++ drop (i + w) s ≡ drop i s) where
  pub all_again : (n i : ℕ) → i + w * n ≤ length s → flat_map bytes (map (λ j. read s (i + w * j)) (from 0 n)) ++ drop (i + w * n) s ≡ drop i s
  unfolding from flat_map
  all_again zero i h = rw (mul-zero, add-zero) refl
  all_again (suc n) i h =
      let step : (j : ℕ) → i + w * suc j ≡ i + w + w * j = λ j. rw mul-suc (omega arith) in
      let fits : i + w + w * n ≤ length s = rw (step n) at h in
      let later : map (λ j. read s (i + w * j)) (from 1 n) ≡ map (λ j. read s (i + w + w * j)) (from 0 n) =
      map_from_suc (λ j. read s (i + w * j)) 0 n ∙ map_same (λ j. read s (i + w * suc j)) (λ j. read s (i + w + w * j)) (from 0 n) (λ j. rw (step j) refl) in
      let place : i + w * 0 ≡ i = rw mul-zero (add-zero i) in
      rw (later, place, step n, append_assoc, all_again n (i + w) fits) (again i (omega arith))
