-- Sums over members, and lots given up, lowest member first. Assumes nothing.
use Prim.Native.Nat.{ℕ, zero, suc, ◌+◌, ◌*◌, ◌-◌, ◌≤◌, ◌<◌, min}
use mathlib.Core.Path.{◌≡◌, refl, ap}
use mathlib.Core.List.{List, [], ◌∷◌}
use native.Mathlib.Omega.{arith}
use native.Mathlib.Nat.{suc-mul}
use native.Mathlib.Numerals.{add-one}
use lib.ListN.{length, get_or, set, drop, replicate, drop_of_length-le}
use lib.Seq.{drop-cons}
use Rattle.arith.specs.Lists.{total}
use Rattle.rules.specs.Default.{sum_of, given_up}

-- ---- sums
pub sum_cons : (x : ℕ) (xs : List ℕ) → sum_of (x ∷ xs) ≡ x + sum_of xs
unfolding sum_of total
sum_cons x xs = refl

pub sum_none : sum_of [] ≡ 0
unfolding sum_of total
sum_none = refl

pub sum_zeros : (n : ℕ) → sum_of (replicate n 0) ≡ 0
unfolding sum_of total
sum_zeros zero = refl
sum_zeros (suc n) = rw (sum_cons 0 (replicate n 0), sum_zeros n)

-- one more at place i
pub sum_set : (l : List ℕ) (i : ℕ) → i < length l → sum_of (set l i (get_or l i 0 + 1)) ≡ sum_of l + 1
sum_set [] i h = absurd (omega arith)
sum_set (x ∷ l) zero h = rw (sum_cons (x + 1) l, sum_cons x l) (omega arith)
sum_set (x ∷ l) (suc i) h = rw (sum_cons x (set l i (get_or l i 0 + 1)), sum_cons x l, sum_set l i (omega arith)) (omega arith)

pub sum_le : (a b : List ℕ) → length a ≡ length b → ((j : ℕ) → get_or a j 0 ≤ get_or b j 0) → sum_of a ≤ sum_of b
sum_le [] [] e f = omega arith
sum_le [] (y ∷ b) e f = absurd (omega arith)
sum_le (x ∷ a) [] e f = absurd (omega arith)
sum_le (x ∷ a) (y ∷ b) e f = omega (arith, sum_cons x a, sum_cons y b, f 0, sum_le a b (omega arith) (λ j. f (suc j)))

pub sum_lt : (a b : List ℕ) (i : ℕ) → length a ≡ length b → ((j : ℕ) → get_or a j 0 ≤ get_or b j 0) → get_or a i 0 < get_or b i 0 → sum_of a < sum_of b
sum_lt [] [] i e f h = absurd (omega arith)
sum_lt [] (y ∷ b) i e f h = absurd (omega arith)
sum_lt (x ∷ a) [] i e f h = absurd (omega arith)
sum_lt (x ∷ a) (y ∷ b) zero e f h = omega (arith, sum_cons x a, sum_cons y b, sum_le a b (omega arith) (λ j. f (suc j)))
sum_lt (x ∷ a) (y ∷ b) (suc i) e f h = omega (arith, sum_cons x a, sum_cons y b, f 0, sum_lt a b i (omega arith) (λ j. f (suc j)) h)

pub sum_most : (l : List ℕ) (most : ℕ) → ((j : ℕ) → get_or l j 0 ≤ most) → sum_of l ≤ length l * most
sum_most [] most f = omega (arith, sum_none)
sum_most (x ∷ l) most f = rw (sum_cons x l, suc-mul (length l) most) (omega (arith, f 0, sum_most l most (λ j. f (suc j))))

-- ---- given up
module _ (q : ℕ) (held : List ℕ) (i : ℕ) where
  pub given_next : i < length held → given_up q (drop i held) ≡ min q (get_or held i 0) ∷ given_up (q - min q (get_or held i 0)) (drop (i + 1) held)
  unfolding given_up
  given_next h = rw (add-one, drop-cons held i 0 h)

  pub given_end : length held ≤ i → given_up q (drop i held) ≡ []
  unfolding given_up
  given_end h = rw (drop_of_length-le held h)

pub given_length : (q : ℕ) (held : List ℕ) → length (given_up q held) ≡ length held
unfolding given_up
given_length q [] = refl
given_length q (x ∷ held) = ap suc (given_length (q - min q x) held)

-- all that is given up is q, where so much is held
pub given_sum : (q : ℕ) (held : List ℕ) → sum_of (given_up q held) ≡ min q (sum_of held)
unfolding given_up
given_sum q [] = rw sum_none (omega arith)
given_sum q (x ∷ held) =
    rw (sum_cons (min q x) (given_up (q - min q x) held), sum_cons x held, given_sum (q - min q x) held) (omega arith)

pub given_le : (q : ℕ) (held : List ℕ) (i : ℕ) → get_or (given_up q held) i 0 ≤ get_or held i 0
unfolding given_up
given_le q [] i = omega arith
given_le q (x ∷ held) zero = omega arith
given_le q (x ∷ held) (suc i) = given_le (q - min q x) held i
