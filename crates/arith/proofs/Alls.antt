-- What holds of each element of a list. Assumes nothing.
use mathlib.Core.Path.{◌≡◌, refl, sym, subst}
use mathlib.Core.Bool.{Bool, true, cond}
use mathlib.Core.List.{List, [], ◌∷◌, ◌++◌, Memᴰ}
use Prim.Native.Nat.{ℕ, zero, suc, ◌<◌}
use native.Mathlib.Omega.{arith}
use lib.ListN.{length, get_or}
use Rattle.std.specs.List.{list_all, list_any}
use Rattle.arith.specs.Lists.{every, any, kept, all_of, All}
use Rattle.arith.proofs.Tests.{by_bool, and_left, and_right}

-- tests, and what passes them
pub all_hold : (bs : List Bool) → all_of bs ≡ true → All (λ b. b ≡ true) bs
unfolding all_of
all_hold [] e = tt
all_hold (b ∷ bs) e = (and_left b (all_of bs) e, all_hold bs (and_right b (all_of bs) e))

pub hold_all : (bs : List Bool) → All (λ b. b ≡ true) bs → all_of bs ≡ true
unfolding all_of
hold_all [] h = refl
hold_all (b ∷ bs) h = rw h.0 (hold_all bs h.1)

module _ {A : Type 0} where
  pub every_all : (p : A → Bool) (l : List A) → every p l ≡ true → All (λ a. p a ≡ true) l
  unfolding every
  every_all p [] e = tt
  every_all p (x ∷ l) e = (and_left (p x) (every p l) e, every_all p l (and_right (p x) (every p l) e))

  pub all_every : (p : A → Bool) (l : List A) → All (λ a. p a ≡ true) l → every p l ≡ true
  unfolding every
  all_every p [] h = refl
  all_every p (x ∷ l) h = rw h.0 (all_every p l h.1)

  -- a list passes if each of its places does
  pub every_place : (p : A → Bool) (z : A) (l : List A) → ((i : ℕ) → i < length l → p (get_or l i z) ≡ true) → every p l ≡ true
  unfolding every
  every_place p z [] f = refl
  every_place p z (x ∷ l) f = rw (f 0 (omega arith)) (every_place p z l (λ i h. f (suc i) (omega arith)))

  pub all_place : (P : A → Type 0) (z : A) (l : List A) → All P l → (i : ℕ) → i < length l → P (get_or l i z)
  all_place P z [] h i k = absurd (omega arith)
  all_place P z (x ∷ l) h zero k = h.0
  all_place P z (x ∷ l) h (suc i) k = all_place P z l h.1 i (omega arith)

  pub all_always : (P : A → Type 0) (l : List A) → ((a : A) → P a) → All P l
  all_always P [] f = tt
  all_always P (x ∷ l) f = (f x, all_always P l f)

  pub all_map : (P Q : A → Type 0) (l : List A) → ((a : A) → P a → Q a) → All P l → All Q l
  all_map P Q [] f h = tt
  all_map P Q (x ∷ l) f h = (f x h.0, all_map P Q l f h.1)

  pub all_both : (P Q : A → Type 0) (l : List A) → All P l → All Q l → All (λ a. P a × Q a) l
  all_both P Q [] h g = tt
  all_both P Q (x ∷ l) h g = ((h.0, g.0), all_both P Q l h.1 g.1)

  pub all_append : (P : A → Type 0) (l m : List A) → All P l → All P m → All P (l ++ m)
  all_append P [] m h g = g
  all_append P (x ∷ l) m h g = (h.0, all_append P l m h.1 g)

  -- of those kept, each passed the test
  pub all_kept : (P : A → Type 0) (p : A → Bool) (l : List A) → All P l → All (λ a. P a × (p a ≡ true)) (kept p l)
  unfolding kept
  all_kept P p [] h = tt
  all_kept P p (x ∷ l) h =
      by_bool (λ b. All (λ a. P a × (p a ≡ true)) (cond b (x ∷ kept p l) (kept p l))) (p x) (λ e. ((h.0, e), all_kept P p l h.1))
      (λ _. all_kept P p l h.1)

-- std's words for tests of a list
pub every_is_all : {A : Type 0} (p : A → Bool) (l : List A) → list_all p l ≡ every p l
unfolding every
every_is_all p [] = refl
every_is_all p (x ∷ l) = rw (every_is_all p l) refl

pub any_is_any : {A : Type 0} (p : A → Bool) (l : List A) → list_any p l ≡ any p l
unfolding any
any_is_any p [] = refl
any_is_any p (x ∷ l) = rw (any_is_any p l) refl

-- what holds of each element, by where an element stands
module _ {A : Type 0} where
  pub all_member : (P : A → Type 0) {x : A} {l : List A} → Memᴰ x l → All P l → P x
  all_member P (Memᴰ.head e) h = subst P (sym e) h.0
  all_member P (Memᴰ.tail m) h = all_member P m h.1

  pub all_there : (l : List A) → All (λ x. Memᴰ x l) l
  all_there [] = tt
  all_there (y ∷ l) = (Memᴰ.head refl, all_map (λ x. Memᴰ x l) (λ x. Memᴰ x (y ∷ l)) l (λ x m. Memᴰ.tail m) (all_there l))
