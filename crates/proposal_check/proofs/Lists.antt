-- Lists by their places. Assumes nothing.
use mathlib.Core.Path.{◌≡◌, refl, sym, ap, ◌∙◌}
use mathlib.Core.Bool.{Bool, ◌&&◌, and_assoc}
use mathlib.Core.List.{List, [], ◌∷◌, map}
use Prim.Native.Nat.{ℕ, zero, suc, ◌+◌, ◌-◌, ◌<◌, ◌≤◌}
use native.Mathlib.Omega.{arith}
use native.Mathlib.Nat.{zero-add}
use native.Mathlib.Numerals.{add-one}
use lib.ListN.{length, get_or, length-map}
use lib.Seq.{ext_get_or}
use Rattle.arith.specs.Lists.{every, any, total, from}
use Rattle.arith.proofs.Ranges.{total_more}
use Rattle.arith.proofs.Tests.{and_true}
use Rattle.arith.proofs.Scans.{from_next, from_end}
use Rattle.arith.proofs.Appends.{from_length, map_at, from_at}

-- each of the numbers from a on mapped the same way by two
pub map_from : {A : Type 0} (f g : ℕ → A) (a n : ℕ) → ((i : ℕ) → a ≤ i → i < a + n → f i ≡ g i) → map f (from a n) ≡ map g (from a n)
unfolding from
map_from f g a zero e = refl
map_from f g a (suc n) e = rw (e a (omega arith) (omega arith), map_from f g (suc a) n (λ i l u. e i (omega arith) (omega arith)))

-- two tests that agree on each of the numbers from a on agree on all
pub every_same_from : (p q : ℕ → Bool) (a n : ℕ) → ((i : ℕ) → i < a + n → p i ≡ q i) → every p (from a n) ≡ every q (from a n)
unfolding every from
every_same_from p q a zero e = refl
every_same_from p q a (suc n) e = rw (e a (omega arith), every_same_from p q (suc a) n (λ i u. e i (omega arith)))

-- a list is what stands at its places
pub map_places : (l : List ℕ) → map (λ i. get_or l i 0) (from 0 (length l)) ≡ l
map_places l =
    let long = length-map (from 0 (length l)) (λ i. get_or l i 0) ∙ from_length 0 (length l) in
    ext_get_or 0 (map (λ i. get_or l i 0) (from 0 (length l))) l long
    (λ i h. map_at (λ j. get_or l j 0) (from 0 (length l)) i 0 0 (omega (arith, long, from_length 0 (length l)))
    ∙ ap (λ j. get_or l j 0) (from_at 0 (length l) i 0 (omega (arith, long)) ∙ zero-add i))

pub any_map : {A B : Type 0} (p : B → Bool) (f : A → B) (l : List A) → any p (map f l) ≡ any (λ a. p (f a)) l
unfolding any
any_map p f [] = refl
any_map p f (x ∷ l) = rw (any_map p f l)

-- ---- what the numbers from i up to n are mapped to
module _ {A : Type 0} (f : ℕ → A) (p : A → Bool) (n i : ℕ) (ok all : Bool) (known : ok && every p (map f (from i (n - i))) ≡ all) where
  pub all_next : i < n → (ok && p (f i)) && every p (map f (from (i + 1) (n - (i + 1)))) ≡ all
  unfolding every
  all_next h = and_assoc ok (p (f i)) (every p (map f (from (i + 1) (n - (i + 1))))) ∙ rw (from_next i n h) at known

  pub all_end : n ≤ i → ok ≡ all
  unfolding every
  all_end h = sym (and_true ok) ∙ rw (from_end i n h) at known

-- ---- two tests that are the same of each
pub each_same : (p q : ℕ → Bool) (a n : ℕ) → ((i : ℕ) → a ≤ i → i < a + n → p i ≡ q i) → every p (from a n) ≡ every q (from a n)
unfolding every from
each_same p q a zero e = refl
each_same p q a (suc n) e = rw (e a (omega arith) (omega arith), each_same p q (suc a) n (λ i l u. e i (omega arith) (omega arith)))

-- ---- sums
pub total_map : {A B : Type 0} (f : B → ℕ) (g : A → B) (l : List A) → total f (map g l) ≡ total (λ a. f (g a)) l
unfolding total
total_map f g [] = refl
total_map f g (x ∷ l) = rw (total_map f g l)

-- ---- a sum of what stands at the first i places
pub sum_next : (f : ℕ → ℕ) (i sum : ℕ) → sum ≡ total f (from 0 i) → sum + f i ≡ total f (from 0 (i + 1))
sum_next f i sum e = rw (add-one i, total_more f 0 i, zero-add i, e)
