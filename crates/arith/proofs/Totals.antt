-- Totals over numbers that follow each other, of which only those listed count. Assumes nothing.
use Prim.Native.Nat.{ℕ, zero, suc, ◌+◌, ◌*◌, ◌≤◌, ◌<◌}
use mathlib.Core.Path.{◌≡◌, refl, sym, ◌∙◌}
use mathlib.Core.Bool.{Bool, false, cond}
use mathlib.Core.List.{List, [], ◌∷◌, ◌++◌}
use native.Mathlib.Omega.{arith}
use native.Mathlib.Nat.{suc-mul}
use lib.Dec.{eqb}
use lib.ListN.{take}
use borrow.Author.Tests.{eq-eqb, ne_eqb}
use Rattle.arith.specs.Lists.{any, kept, total, from}
use Rattle.arith.proofs.Tests.{by_bool, same_or}

-- ---- totals
pub total_append : {A : Type 0} (f : A → ℕ) (l m : List A) → total f (l ++ m) ≡ total f l + total f m
unfolding total
total_append f [] m = omega arith
total_append f (x ∷ l) m = rw (total_append f l m) (omega arith)

pub total_plus : {A : Type 0} (f g : A → ℕ) (l : List A) → total (λ x. f x + g x) l ≡ total f l + total g l
unfolding total
total_plus f g [] = refl
total_plus f g (x ∷ l) = rw (total_plus f g l) (omega arith)

-- the same for each of the numbers, the same in total
pub total_same : (f g : ℕ → ℕ) (a n : ℕ) → ((c : ℕ) → a ≤ c → c < a + n → f c ≡ g c) → total f (from a n) ≡ total g (from a n)
unfolding total from
total_same f g a zero e = refl
total_same f g a (suc n) e = rw (e a (omega arith) (omega arith), total_same f g (suc a) n (λ c h k. e c (omega arith) (omega arith)))

pub total_most : (f : ℕ → ℕ) (most a n : ℕ) → ((c : ℕ) → a ≤ c → c < a + n → f c ≤ most) → total f (from a n) ≤ n * most
unfolding total from
total_most f most a zero h = omega arith
total_most f most a (suc n) h = rw (suc-mul n most) (omega (arith, h a (omega arith) (omega arith), total_most f most (suc a) n (λ c p q. h c (omega arith) (omega arith))))

-- ---- rising lists of numbers from a on, below b
pub data Rising (b : ℕ) : ℕ → List ℕ → Type 0 where
  end : {a : ℕ} → Rising b a []
  more : {a x : ℕ} {l : List ℕ} → a ≤ x → x < b → Rising b (suc x) l → Rising b a (x ∷ l)

rising_lower : {a b c : ℕ} {l : List ℕ} → a ≤ c → Rising b c l → Rising b a l
rising_lower h end = end
rising_lower {a} h (more {x = x} p q r) = more {a = a} {x = x} (omega arith) q r

pub rising_from : (a n b : ℕ) → a + n ≤ b → Rising b a (from a n)
unfolding from
rising_from a zero b h = end
rising_from a (suc n) b h = more {a = a} {x = a} (omega arith) (omega arith) (rising_from (suc a) n b (omega arith))

pub rising_kept : {b a : ℕ} {l : List ℕ} (p : ℕ → Bool) → Rising b a l → Rising b a (kept p l)
unfolding kept
rising_kept p end = end
rising_kept {b} {a} p (more {x = x} {l = l} h k r) =
    by_bool (λ t. Rising b a (cond t (x ∷ kept p l) (kept p l))) (p x) (λ _. more h k (rising_kept p r)) (λ _. rising_lower (omega arith) (rising_kept p r))

pub rising_take : {a b : ℕ} {l : List ℕ} (n : ℕ) → Rising b a l → Rising b a (take n l)
rising_take zero r = end
rising_take (suc n) end = end
rising_take (suc n) (more h k r) = more h k (rising_take n r)

-- whether a number is listed
abbrev pub listed : List ℕ → ℕ → Bool
listed l c = any (λ x. eqb x c) l

not_listed : {b a : ℕ} {l : List ℕ} (c : ℕ) → c < a → Rising b a l → listed l c ≡ false
unfolding any
not_listed c h end = refl
not_listed c h (more {x = x} p q r) = rw (ne_eqb x c (λ e. omega arith), not_listed c (omega arith) r)

listed_none : (f : ℕ → ℕ) (a n : ℕ) → total (λ c. cond (listed [] c) (f c) 0) (from a n) ≡ 0
unfolding total from any
listed_none f a zero = refl
listed_none f a (suc n) = rw (listed_none f (suc a) n)

total_cons : (f : ℕ → ℕ) (a n : ℕ) → total f (from a (suc n)) ≡ f a + total f (from (suc a) n)
unfolding total from
total_cons f a n = refl

-- The total over a rising list is that over all numbers, of which those listed count.
pub total_listed : (f : ℕ → ℕ) (n a b : ℕ) (l : List ℕ) → a + n ≡ b → Rising b a l → total f l ≡ total (λ c. cond (listed l c) (f c) 0) (from a n)
unfolding total
total_listed f n a b [] e r = sym (listed_none f a n)
total_listed f zero a b (x ∷ l) e (more p q r) = absurd (omega arith)
total_listed f (suc n) a b (x ∷ l) e (more p q r) =
    let g : ℕ → ℕ = λ c. cond (listed (x ∷ l) c) (f c) 0 in
    same_or x a
    (λ z. let here : g a ≡ f x = (unfold any in rw (z, eq-eqb a a refl)) in
    let rest : total g (from (suc a) n) ≡ total f l
    = total_same g (λ c. cond (listed l c) (f c) 0) (suc a) n (λ c h k. unfold any in rw (ne_eqb x c (λ w. omega arith))) ∙ sym (total_listed f n (suc a) b l (omega arith) (rw z at r)) in
    omega (arith, total_cons g a n))
    (λ z. let later : Rising b (suc a) (x ∷ l) = more (omega arith) q r in
    let here : g a ≡ 0 = rw (not_listed a (omega arith) later) in
    let rest : total g (from (suc a) n) ≡ total f (x ∷ l) = sym (total_listed f n (suc a) b (x ∷ l) (omega arith) later) in
    omega (arith, total_cons g a n))
