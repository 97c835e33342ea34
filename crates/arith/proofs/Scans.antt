-- Tests of many things, one after the other: `ok` says whether those passed so far pass. Assumes nothing.
use mathlib.Core.Path.{◌≡◌, refl, sym, ◌∙◌}
use mathlib.Core.Bool.{Bool, true, false, ◌&&◌, ◌||◌, and_assoc, or_assoc}
use mathlib.Core.List.{List, [], ◌∷◌, map}
use Prim.Native.Nat.{ℕ, zero, suc, ◌+◌, ◌*◌, ◌-◌, ◌<◌, ◌≤◌}
use native.Mathlib.Omega.{arith}
use native.Mathlib.Nat.{sub-zero, suc-mul}
use native.Mathlib.Numerals.{add-one}
use lib.ListN.{length, get_or, take, drop, drop_of_length-le}
use lib.Seq.{drop-cons, drop-drop}
use Rattle.arith.specs.Lists.{every, any, from, every_block}
use Rattle.arith.proofs.Tests.{and_left, and_right, and_true, and_false, or_false}

pub less_one : (n i : ℕ) → i < n → n - i ≡ suc (n - (i + 1))
less_one n i h = omega arith

pub done : (n i : ℕ) → n ≤ i → n - i ≡ zero
done n i h = omega arith

every_cons : {A : Type 0} (p : A → Bool) (x : A) (l : List A) → every p (x ∷ l) ≡ p x && every p l
unfolding every
every_cons p x l = refl

-- ---- a list
module _ {A : Type 0} (p : A → Bool) (l : List A) (z : A) (i : ℕ) (ok : Bool) (known : ok && every p (drop i l) ≡ every p l) where
  pub every_next : i < length l → (ok && p (get_or l i z)) && every p (drop (i + 1) l) ≡ every p l
  every_next h = and_assoc ok (p (get_or l i z)) (every p (drop (i + 1) l)) ∙ rw (add-one, ← every_cons p (get_or l i z) (drop (suc i) l), ← drop-cons l i z h) known

  pub every_end : length l ≤ i → ok ≡ every p l
  unfolding every
  every_end h = sym (and_true ok) ∙ rw (drop_of_length-le l h) at known

-- ---- the numbers from a up to n
pub from_next : (i n : ℕ) → i < n → from i (n - i) ≡ i ∷ from (i + 1) (n - (i + 1))
unfolding from
from_next i n h = rw (less_one n i h, add-one i)

pub from_end : (i n : ℕ) → n ≤ i → from i (n - i) ≡ []
unfolding from
from_end i n h = rw (done n i h)

pub each_start : (p : ℕ → Bool) (n : ℕ) → every p (from 0 (n - 0)) ≡ every p (from 0 n)
each_start p n = rw (sub-zero n)

module _ (p : ℕ → Bool) (n i : ℕ) (ok all : Bool) (known : ok && every p (from i (n - i)) ≡ all) where
  pub each_next : i < n → (ok && p i) && every p (from (i + 1) (n - (i + 1))) ≡ all
  each_next h = and_assoc ok (p i) (every p (from (i + 1) (n - (i + 1)))) ∙ rw (← every_cons p i (from (i + 1) (n - (i + 1))), ← from_next i n h) known

  pub each_end : n ≤ i → ok ≡ all
  unfolding every
  each_end h = sym (and_true ok) ∙ rw (from_end i n h) at known

  -- one does not pass
  pub each_stop : i < n → p i ≡ false → all ≡ false
  each_stop h e = sym (rw (e, and_false ok) at (each_next h))

-- ---- blocks of w places
module _ {A : Type 0} (w : ℕ) (p : List A → Bool) (m : ℕ) (l : List A) (i : ℕ) (ok all : Bool) (known : ok && every_block w p (m - i) (drop (i * w) l) ≡ all) where
  pub block_next : i < m → (ok && p (take w (drop (i * w) l))) && every_block w p (m - (i + 1)) (drop ((i + 1) * w) l) ≡ all
  unfolding every_block
  block_next h =
      and_assoc ok (p (take w (drop (i * w) l))) (every_block w p (m - (i + 1)) (drop ((i + 1) * w) l))
      ∙ rw (add-one i, suc-mul i w, ← drop-drop w (i * w) l) (rw (less_one m i h, add-one i) at known)

  pub block_end : m ≤ i → ok ≡ all
  unfolding every_block
  block_end h = sym (and_true ok) ∙ rw (done m i h) at known

module _ {A : Type 0} (w : ℕ) (p : List A → Bool) (m : ℕ) (l : List A) (i : ℕ) (all : Bool) (known : every_block w p (m - i) (drop (i * w) l) ≡ all) where
  more_blocks : i < m → p (take w (drop (i * w) l)) && every_block w p (m - (i + 1)) (drop ((i + 1) * w) l) ≡ all
  more_blocks h = block_next w p m l i true all known h

  pub pass_block : i < m → p (take w (drop (i * w) l)) ≡ true → every_block w p (m - (i + 1)) (drop ((i + 1) * w) l) ≡ all
  pass_block h e = rw e at (more_blocks h)

  pub stop_block : i < m → p (take w (drop (i * w) l)) ≡ false → false ≡ all
  stop_block h e = rw e at (more_blocks h)

-- ---- whether any of them passes
module _ {A : Type 0} (f : ℕ → A) (p : A → Bool) (n i : ℕ) (found one : Bool) where
  pub some_next : found || any p (map f (from i (n - i))) ≡ one → i < n → (found || p (f i)) || any p (map f (from (i + 1) (n - (i + 1)))) ≡ one
  unfolding any
  some_next known h = or_assoc found (p (f i)) (any p (map f (from (i + 1) (n - (i + 1))))) ∙ rw (from_next i n h) at known

  pub some_end : found || any p (map f (from i (n - i))) ≡ one → n ≤ i → found ≡ one
  unfolding any
  some_end known h = sym (or_false found) ∙ rw (from_end i n h) at known

-- ---- a test of what a list is mapped to, and two tests at once
module _ {A B : Type 0} where
  pub every_map : (p : B → Bool) (f : A → B) (l : List A) → every p (map f l) ≡ every (λ a. p (f a)) l
  unfolding every
  every_map p f [] = refl
  every_map p f (x ∷ l) = rw (every_map p f l)

pub map_map : {A B D : Type 0} (g : B → D) (f : A → B) (l : List A) → map g (map f l) ≡ map (λ a. g (f a)) l
map_map g f [] = refl
map_map g f (x ∷ l) = rw (map_map g f l)

pub and_swap : (a b c d : Bool) → (a && b) && (c && d) ≡ (a && c) && (b && d)
and_swap true b true d = refl
and_swap true b false d = and_false b
and_swap false b c d = refl

pub every_both : {A : Type 0} (p q : A → Bool) (l : List A) → every (λ a. p a && q a) l ≡ every p l && every q l
unfolding every
every_both p q [] = refl
every_both p q (x ∷ l) = rw (every_both p q l) (and_swap (p x) (q x) (every p l) (every q l))

module _ {A : Type 0} (p q : A → Bool) where
  pub every_same : ((x : A) → p x ≡ q x) → (l : List A) → every p l ≡ every q l
  unfolding every
  every_same same [] = refl
  every_same same (x ∷ l) = rw (same x, every_same same l)

  pub every_weaker : ((x : A) → p x ≡ true → q x ≡ true) → (l : List A) → every p l ≡ true → every q l ≡ true
  unfolding every
  every_weaker weaker [] e = refl
  every_weaker weaker (x ∷ l) e = rw (weaker x (and_left (p x) (every p l) e)) (every_weaker weaker l (and_right (p x) (every p l) e))
