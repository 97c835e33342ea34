-- A list with another written over a part of it, place by place. Assumes nothing.
use Prim.Native.Nat.{ℕ, zero, suc, ◌+◌, ◌-◌, ◌≤◌, ◌<◌}
use mathlib.Core.Path.{◌≡◌, refl, sym, ap, ◌∙◌}
use mathlib.Core.List.{List, [], ◌∷◌, ◌++◌, zip_with}
use native.Mathlib.Omega.{arith}
use lib.ListN.{length, take, drop, get_or, length-append, length-take, length-drop, get_or-append}
use lib.Seq.{length-take-le, get_or-append-add, get_or-take, get_or-drop}
use Rattle.arith.specs.Lists.{over}
use Rattle.arith.proofs.Tests.{le_or_lt}

module _ {A : Type 0} (a : ℕ) (xs l : List A) (fits : a + length xs ≤ length l) where
  pub over_length : length (over a xs l) ≡ length l
  unfolding over
  over_length = simp (length-append, length-take, length-drop) (omega arith)

  -- behind the first a places xs begins
  behind : (j : ℕ) (z : A) → get_or (over a xs l) (a + j) z ≡ get_or (xs ++ drop (a + length xs) l) j z
  unfolding over
  behind j z = rw (length-take-le a l (omega arith)) at (get_or-append-add (take a l) (xs ++ drop (a + length xs) l) j z)

  -- Inside the part the new list is read.
  pub over_inside : (j : ℕ) (z : A) → j < length xs → get_or (over a xs l) (a + j) z ≡ get_or xs j z
  over_inside j z h = behind j z ∙ get_or-append xs (drop (a + length xs) l) z j h

  -- Outside the part the old list is read.
  pub over_outside : (i : ℕ) (z : A) → (a ≤ i → a + length xs ≤ i) → get_or (over a xs l) i z ≡ get_or l i z
  unfolding over
  over_outside i z out =
      le_or_lt a i (λ h. let e : i ≡ a + (length xs + (i - a - length xs)) = omega (arith, out h) in
      rw e (behind _ z ∙ get_or-append-add xs (drop (a + length xs) l) _ z ∙ get_or-drop (a + length xs) l _ z ∙ ap (λ n. get_or l n z) (omega arith)))
      (λ h. get_or-append (take a l) _ z i (rw (length-take-le a l (omega arith)) h) ∙ get_or-take a l i z h)

-- Two lists of the same length joined place by place.
pub zip_length : {A B : Type 0} (f : A → A → B) (xs ys : List A) → length xs ≡ length ys → length (zip_with f xs ys) ≡ length xs
unfolding zip_with
zip_length f [] [] e = refl
zip_length f [] (y ∷ ys) e = refl
zip_length f (x ∷ xs) [] e = sym e
zip_length f (x ∷ xs) (y ∷ ys) e = ap suc (zip_length f xs ys (omega arith))

pub zip_at : {A : Type 0} (f : A → A → A) (xs ys : List A) (i : ℕ) (z : A) → i < length xs → i < length ys → get_or (zip_with f xs ys) i z ≡ f (get_or xs i z) (get_or ys i z)
unfolding zip_with
zip_at f [] ys i z h k = absurd (omega arith)
zip_at f (x ∷ xs) [] i z h k = absurd (omega arith)
zip_at f (x ∷ xs) (y ∷ ys) zero z h k = refl
zip_at f (x ∷ xs) (y ∷ ys) (suc i) z h k = zip_at f xs ys i z (omega arith) (omega arith)
