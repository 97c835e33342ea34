-- Numbers of which no two are the same, and numbers that rise. Assumes nothing.
use Rattle.std.proofs.Common.{◌≡◌, ℕ, suc, ◌+◌, ◌-◌, ◌<◌, ◌≤◌, Bool, true, false, not, ◌&&◌, eqb, leb, List, [], ◌∷◌, map, sym, refl, ◌∙◌, add-one, arith, ne_eqb, leb-true}
use mathlib.Core.Bool.{and_assoc}
use Rattle.arith.specs.Lists.{any, from}
use Rattle.arith.proofs.Tests.{and_left, and_right, and_true}
use Rattle.rules.specs.Refusals.{distinct}
use Rattle.arith.proofs.Scans.{from_next, from_end}

-- ---- f of the numbers from i up to n
module _ (f : ℕ → ℕ) (n i : ℕ) (ok all : Bool) where
  pub distinct_next : ok && distinct (map f (from i (n - i))) ≡ all → i < n
      → (ok && not (any (eqb (f i)) (map f (from (suc i) (n - suc i))))) && distinct (map f (from (i + 1) (n - (i + 1)))) ≡ all
  unfolding distinct
  distinct_next known h =
      and_assoc ok (not (any (eqb (f i)) (map f (from (suc i) (n - suc i))))) (distinct (map f (from (i + 1) (n - (i + 1)))))
      ∙ rw (add-one i) (rw (from_next i n h, add-one i) at known)

  pub distinct_end : ok && distinct (map f (from i (n - i))) ≡ all → n ≤ i → ok ≡ all
  unfolding distinct
  distinct_end known h = sym (and_true ok) ∙ rw (from_end i n h) at known

-- ---- numbers that rise, the first from k on
unfoldable pub rises_from : ℕ → List ℕ → Bool
rises_from k [] = true
rises_from k (x ∷ l) = leb k x && rises_from (suc x) l

module _ (f : ℕ → ℕ) (n i k : ℕ) (ok all : Bool) (known : ok && rises_from k (map f (from i (n - i))) ≡ all) where
  pub rises_next : i < n → (ok && leb k (f i)) && rises_from (f i + 1) (map f (from (i + 1) (n - (i + 1)))) ≡ all
  unfolding rises_from
  rises_next h = and_assoc ok (leb k (f i)) (rises_from (f i + 1) (map f (from (i + 1) (n - (i + 1))))) ∙ rw (add-one (f i)) (rw (from_next i n h) at known)

  pub rises_end : n ≤ i → ok ≡ all
  unfolding rises_from
  rises_end h = sym (and_true ok) ∙ rw (from_end i n h) at known

none_same : (x k : ℕ) (l : List ℕ) → x < k → rises_from k l ≡ true → any (eqb x) l ≡ false
unfolding rises_from any
none_same x k [] h e = refl
none_same x k (y ∷ l) h e =
    let above = leb-true k y (and_left (leb k y) (rises_from (suc y) l) e) in
    rw (ne_eqb x y (λ z. omega arith)) (none_same x (suc y) l (omega arith) (and_right (leb k y) (rises_from (suc y) l) e))

pub rises_distinct : (k : ℕ) (l : List ℕ) → rises_from k l ≡ true → distinct l ≡ true
unfolding rises_from distinct
rises_distinct k [] e = refl
rises_distinct k (x ∷ l) e =
    let rest = and_right (leb k x) (rises_from (suc x) l) e in
    rw (none_same x (suc x) l (omega arith) rest) (rises_distinct (suc x) l rest)
