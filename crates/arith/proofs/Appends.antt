-- Lists that end in one more, and lists joined. Assumes nothing.
use mathlib.Core.Path.{◌≡◌, refl, sym, ap, ◌∙◌}
use mathlib.Core.Bool.{Bool}
use mathlib.Core.List.{List, [], ◌∷◌, ◌++◌, map, flat_map, append_assoc, append-nil}
use Prim.Native.Nat.{ℕ, zero, suc, ◌+◌, ◌*◌, ◌<◌}
use native.Mathlib.Omega.{arith}
use native.Mathlib.Nat.{add-suc, suc-add, add-zero, suc-mul, zero-mul}
use lib.ListN.{length, get_or, length-append}
use Rattle.arith.specs.Lists.{kept, from}
use Rattle.arith.proofs.Tests.{true_or}

pub from_more : (a n : ℕ) → from a (suc n) ≡ from a n ++ ((a + n) ∷ [])
unfolding from
from_more a zero = rw (add-zero a)
from_more a (suc n) = ap (λ l. a ∷ l) (from_more (suc a) n) ∙ rw (suc-add a n, add-suc a n)

pub from_length : (a n : ℕ) → length (from a n) ≡ n
unfolding from
from_length a zero = refl
from_length a (suc n) = ap suc (from_length (suc a) n)

pub map_append : {A B : Type 0} (f : A → B) (l m : List A) → map f (l ++ m) ≡ map f l ++ map f m
map_append f [] m = refl
map_append f (x ∷ l) m = ap (λ r. f x ∷ r) (map_append f l m)

pub flat_append : {A B : Type 0} (f : A → List B) (l m : List A) → flat_map f (l ++ m) ≡ flat_map f l ++ flat_map f m
unfolding flat_map
flat_append f [] m = refl
flat_append f (x ∷ l) m = rw (flat_append f l m) (sym (append_assoc (f x) (flat_map f l) (flat_map f m)))

pub flat_one : {A B : Type 0} (f : A → List B) (x : A) → flat_map f (x ∷ []) ≡ f x
unfolding flat_map
flat_one f x = append-nil (f x)

pub flat_length : {A B : Type 0} (w : ℕ) (f : A → List B) → ((x : A) → length (f x) ≡ w) → (l : List A) → length (flat_map f l) ≡ length l * w
unfolding flat_map
flat_length w f e [] = sym (zero-mul w)
flat_length w f e (x ∷ l) = rw (length-append (f x) (flat_map f l), e x, flat_length w f e l, suc-mul (length l) w) (omega arith)

module _ {A : Type 0} (p : A → Bool) where
  pub kept_append : (l m : List A) → kept p (l ++ m) ≡ kept p l ++ kept p m
  unfolding kept
  kept_append [] m = refl
  kept_append (x ∷ l) m = true_or (p x) (λ e. rw (e, kept_append l m)) (λ e. rw (e, kept_append l m))

-- ---- place by place
pub map_at : {A B : Type 0} (f : A → B) (l : List A) (i : ℕ) (y : A) (z : B) → i < length l → get_or (map f l) i z ≡ f (get_or l i y)
map_at f [] i y z h = absurd (omega arith)
map_at f (x ∷ l) zero y z h = refl
map_at f (x ∷ l) (suc i) y z h = map_at f l i y z (omega arith)

pub from_at : (a n i z : ℕ) → i < n → get_or (from a n) i z ≡ a + i
unfolding from
from_at a zero i z h = absurd (omega arith)
from_at a (suc n) zero z h = sym (add-zero a)
from_at a (suc n) (suc i) z h = from_at (suc a) n i z (omega arith) ∙ rw (suc-add a i, add-suc a i)
