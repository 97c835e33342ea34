-- How many of the first numbers pass a test. Assumes nothing.
use Prim.Native.Nat.{ℕ, zero, suc, ◌+◌, ◌-◌, ◌≤◌, ◌<◌}
use mathlib.Core.Path.{◌≡◌, refl, sym, ◌∙◌}
use mathlib.Core.Bool.{Bool, true, false, not, cond}
use native.Mathlib.Omega.{arith}
use lib.Dec.{ltb}
use borrow.Author.Tests.{lt-ltb, le-ltb}
use Rattle.arith.specs.Lists.{count}
use Rattle.arith.proofs.Tests.{by_bool, le_or_lt}

pub one_most : (b : Bool) → cond b 1 0 ≤ 1
one_most true = omega arith
one_most false = omega arith

module _ (p : ℕ → Bool) where
  pub count_most : (n : ℕ) → count p n ≤ n
  unfolding count
  count_most zero = omega arith
  count_most (suc n) = omega (arith, count_most n, one_most (p n))

  pub count_none : (n : ℕ) → ((i : ℕ) → i < n → p i ≡ false) → count p n ≡ 0
  unfolding count
  count_none zero f = refl
  count_none (suc n) f = rw (f n (omega arith), count_none n (λ i h. f i (omega arith))) (omega arith)

  pub count_up : (m n : ℕ) → m ≤ n → count p m ≤ count p n
  unfolding count
  count_up zero zero h = omega arith
  count_up (suc m) zero h = absurd (omega arith)
  count_up m (suc n) h = le_or_lt m n (λ l. omega (arith, count_up m n l)) (λ l. let e : m ≡ suc n = omega arith in rw e (omega arith))

  -- from m on, at most one for each
  pub count_slow : (m n : ℕ) → m ≤ n → count p n + m ≤ count p m + n
  unfolding count
  count_slow zero zero h = omega arith
  count_slow (suc m) zero h = absurd (omega arith)
  count_slow m (suc n) h = le_or_lt m n (λ l. omega (arith, count_slow m n l, one_most (p n))) (λ l. let e : m ≡ suc n = omega arith in rw e (omega arith))

  -- from m on, all pass
  pub count_all : (m n : ℕ) → m ≤ n → ((i : ℕ) → m ≤ i → i < n → p i ≡ true) → count p m + n ≡ count p n + m
  unfolding count
  count_all zero zero h f = refl
  count_all (suc m) zero h f = absurd (omega arith)
  count_all m (suc n) h f =
      le_or_lt m n (λ l. rw (f n l (omega arith)) (omega (arith, count_all m n l (λ i a b. f i a (omega arith)))))
      (λ l. let e : m ≡ suc n = omega arith in rw e refl)

one_imp : (a b : Bool) → (a ≡ true → b ≡ true) → cond a 1 0 ≤ cond b 1 0
one_imp true b f = rw (f refl) (omega arith)
one_imp false b f = omega arith

-- a weaker test passes no fewer
pub count_imp : (p q : ℕ → Bool) (n : ℕ) → ((i : ℕ) → p i ≡ true → q i ≡ true) → count p n ≤ count q n
unfolding count
count_imp p q zero f = omega arith
count_imp p q (suc n) f = omega (arith, count_imp p q n f, one_imp (p n) (q n) (f n))

-- of a test that later numbers pass once one has: fewer than n below i pass exactly if i - n does not
module _ (p : ℕ → Bool) (up : (i j : ℕ) → i ≤ j → p i ≡ true → p j ≡ true) where
  not_below : (i j : ℕ) → i ≤ j → p j ≡ false → p i ≡ false
  not_below i j l e = by_bool (λ b. b ≡ false) (p i) (λ c. sym (up i j l c) ∙ e) (λ c. refl)

  pub rank : (n i : ℕ) → 0 < n → n ≤ i → ltb (count p i) n ≡ not (p (i - n))
  rank n i z l =
      by_bool (λ b. ltb (count p i) n ≡ not b) (p (i - n))
      (λ e. le-ltb (count p i) n (omega (arith, count_all p (i - n) i (omega arith) (λ j a b. up (i - n) j a e))))
      (λ e. lt-ltb (count p i) n (omega (arith, count_none p (i - n + 1) (λ j a. not_below j (i - n) (omega arith) e), count_slow p (i - n + 1) i (omega arith))))
