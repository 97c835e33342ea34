-- Numbers that follow each other: a sum over them, and the first of them that pass a test. Assumes nothing.
use Prim.Native.Nat.{ℕ, zero, suc, ◌+◌}
use mathlib.Core.Path.{◌≡◌, sym, ◌∙◌}
use mathlib.Core.Bool.{Bool, true, false, ◌&&◌}
use mathlib.Core.List.{map}
use native.Mathlib.Omega.{arith}
use native.Mathlib.Nat.{add_assoc, add-zero, zero-add, add-suc, suc-add}
use native.Mathlib.Numerals.{one-add}
use lib.Dec.{eqb, leb, ltb}
use lib.ListN.{take}
use borrow.Author.Tests.{le-leb, lt-leb, lt-ltb, le-ltb, eq-eqb, ne_eqb}
use Rattle.arith.specs.Lists.{any, kept, total, from, count}
use Rattle.arith.proofs.Tests.{true_or, le_or_lt, same_or, and_false, or_false}
use Rattle.arith.proofs.Counts.{count_up}

pub total_more : (f : ℕ → ℕ) (a n : ℕ) → total f (from a (suc n)) ≡ total f (from a n) + f (a + n)
unfolding total from
total_more f a zero = rw (add-zero a) (omega arith)
total_more f a (suc n) = rw (total_more f (suc a) n, suc-add a n, add-suc a n) (omega arith)

-- The first r that pass of f a, f (a + 1) .. f (a + n - 1), where no place but i has c: c is one of them exactly if i is one of those
-- places, f i passes, fewer than r before it pass, and f i is c.
module _ (f : ℕ → ℕ) (p : ℕ → Bool) (c i : ℕ) (only : (j : ℕ) → eqb (f j) c ≡ true → j ≡ i) where
  abbrev among : ℕ → ℕ → Bool
  among a n = leb a i && ltb i (a + n)

  among_none : (a : ℕ) → among a 0 ≡ false
  among_none a = le_or_lt a i (λ l. rw (le-leb a i l, le-ltb i (a + 0) (omega arith))) (λ l. rw (lt-leb a i l))

  among_next : (a n : ℕ) → (i ≡ a → ⊥) → among (suc a) n ≡ among a (suc n)
  among_next a n z = rw (suc-add a n, add-suc a n) (le_or_lt a i (λ l. rw (le-leb a i l, le-leb (suc a) i (omega arith))) (λ l. rw (lt-leb a i l, lt-leb (suc a) i (omega arith))))

  abbrev before : ℕ → ℕ
  before a = count (λ j. p (f j)) a

  picked_from : (n a r : ℕ) → any (λ x. eqb x c) (take r (kept p (map f (from a n)))) ≡ among a n && ((p (f i) && ltb (before i) (before a + r)) && eqb (f i) c)
  unfolding any kept from count
  picked_from n a zero = le_or_lt a i (λ l. rw (le-ltb (before i) (before a + 0) (omega (arith, count_up (λ j. p (f j)) a i l))) (simp and_false)) (λ l. rw (lt-leb a i l))
  picked_from zero a (suc r) = rw (among_none a)
  picked_from (suc n) a (suc r) =
      same_or i a
      (λ z. rw (← z)
      (true_or (p (f i))
      (λ t. rw (
        t,
        picked_from n (suc i) r,
        lt-leb (suc i) i (omega arith),
        le-leb i i (omega arith),
        lt-ltb i (i + suc n) (omega arith),
        lt-ltb (before i) (before i + suc r) (omega arith),
      ) (or_false (eqb (f i) c)))
      (λ t. rw (t, picked_from n (suc i) (suc r), lt-leb (suc i) i (omega arith)) (simp and_false))))
      (λ z. true_or (p (f a))
      (λ t. rw (t, picked_from n (suc a) r, ne_eqb (f a) c (λ e. z (sym (only a (eq-eqb (f a) c e)))), among_next a n z, t, add_assoc (before a) 1 r, one-add r))
      (λ t. rw (t, picked_from n (suc a) (suc r), among_next a n z, t, add-zero (before a))))

  pub picked : (n r : ℕ) → any (λ x. eqb x c) (take r (kept p (map f (from 0 n)))) ≡ ltb i n && ((p (f i) && ltb (count (λ j. p (f j)) i) r) && eqb (f i) c)
  unfolding count
  picked n r = picked_from n 0 r ∙ rw (le-leb 0 i (omega arith), zero-add n, zero-add r)
