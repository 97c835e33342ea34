-- Numbers that rise, tested from the front: it is enough to compare each with the next. Assumes nothing.
use mathlib.Core.Path.{◌≡◌, refl, sym, ◌∙◌}
use mathlib.Core.Bool.{Bool, true, ◌&&◌, and_assoc}
use mathlib.Core.List.{List, [], ◌∷◌}
use Prim.Native.Nat.{ℕ, suc, ◌+◌, ◌<◌, ◌≤◌}
use native.Mathlib.Omega.{arith}
use native.Mathlib.Numerals.{add-one}
use lib.Dec.{ltb}
use lib.ListN.{length, get_or, drop, length-drop}
use lib.Seq.{drop-cons}
use borrow.Author.Tests.{ltb-true, lt-ltb}
use Rattle.arith.specs.Lists.{every}
use Rattle.arith.proofs.Tests.{true_or, and_left, and_right, and_false, and_true}
use Rattle.rules.specs.Header.{rising}

-- What is above a larger number is above a smaller one.
above : (x y : ℕ) (l : List ℕ) → x < y → every (ltb y) l ≡ true → every (ltb x) l ≡ true
unfolding every
above x y [] h e = refl
above x y (z ∷ l) h e =
    let g = ltb-true y z (and_left (ltb y z) (every (ltb y) l) e) in
    rw (lt-ltb x z (omega arith)) (above x y l h (and_right (ltb y z) (every (ltb y) l) e))

pub rising_cons : (x y : ℕ) (l : List ℕ) → rising (x ∷ y ∷ l) ≡ ltb x y && rising (y ∷ l)
unfolding rising every
rising_cons x y l =
    true_or (ltb x y)
    (λ e. rw e (true_or (every (ltb y) l) (λ f. rw (f, above x y l (ltb-true x y e) f)) (λ f. rw f (and_false (every (ltb x) l)))))
    (λ e. rw e)

pub rising_short : (l : List ℕ) → length l ≤ 1 → rising l ≡ true
unfolding rising every
rising_short [] h = refl
rising_short (x ∷ []) h = refl
rising_short (x ∷ y ∷ l) h = absurd (omega arith)

-- ok says whether the first i + 1 numbers of a list rise.
module _ (l : List ℕ) (i : ℕ) (ok : Bool) (known : ok && rising (drop i l) ≡ rising l) where
  two : i + 1 < length l → drop i l ≡ get_or l i 0 ∷ get_or l (i + 1) 0 ∷ drop (suc (suc i)) l
  two h = drop-cons l i 0 (omega arith) ∙ rw (drop-cons l (suc i) 0 (omega arith), add-one i)

  one : i + 1 < length l → drop (i + 1) l ≡ get_or l (i + 1) 0 ∷ drop (suc (suc i)) l
  one h = rw (add-one i) (drop-cons l (suc i) 0 (omega arith))

  pub rising_next : i + 1 < length l → (ok && ltb (get_or l i 0) (get_or l (i + 1) 0)) && rising (drop (i + 1) l) ≡ rising l
  rising_next h =
      and_assoc ok (ltb (get_or l i 0) (get_or l (i + 1) 0)) (rising (drop (i + 1) l))
      ∙ rw (one h, ← rising_cons (get_or l i 0) (get_or l (i + 1) 0) (drop (suc (suc i)) l), ← two h) known

  pub rising_end : length l ≤ i + 1 → ok ≡ rising l
  rising_end h = sym (and_true ok) ∙ rw (rising_short (drop i l) (rw (length-drop i l) (omega arith))) at known
