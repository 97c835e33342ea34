-- Lists: the definitions that the rules use.
use Rattle.std.specs.Prelude.{ℕ, zero, suc, ◌+◌, Bool, true, false, cond, ◌&&◌, ◌||◌, List, [], ◌∷◌, ◌++◌, length, take, drop}

module _ {A : Type 0} where
  -- each of them passes
  unfoldable pub every : (A → Bool) → List A → Bool
  every p [] = true
  every p (x ∷ xs) = p x && every p xs

  -- at least one of them passes
  unfoldable pub any : (A → Bool) → List A → Bool
  any p [] = false
  any p (x ∷ xs) = p x || any p xs

  -- those that pass, in their order
  unfoldable pub kept : (A → Bool) → List A → List A
  kept p [] = []
  kept p (x ∷ xs) = let rest = kept p xs in cond (p x) (x ∷ rest) rest

  -- how many pass
  unfoldable pub how_many : (A → Bool) → List A → ℕ
  how_many p [] = 0
  how_many p (x ∷ xs) = cond (p x) 1 0 + how_many p xs

  -- the sum of a number of each
  unfoldable pub total : (A → ℕ) → List A → ℕ
  total f [] = 0
  total f (x ∷ xs) = f x + total f xs

  -- l with xs written over it from place a on; l is long enough where the rules use it
  unfoldable pub over : ℕ → List A → List A → List A
  over a xs l = take a l ++ (xs ++ drop (a + length xs) l)

  -- each of the n blocks of w places passes
  unfoldable pub every_block : ℕ → (List A → Bool) → ℕ → List A → Bool
  every_block w p zero l = true
  every_block w p (suc n) l = p (take w l) && every_block w p n (drop w l)

  -- f done in each of the n blocks of w places
  unfoldable pub in_each_block : ℕ → (List A → List A) → ℕ → List A → List A
  in_each_block w f zero l = l
  in_each_block w f (suc n) l = f (take w l) ++ in_each_block w f n (drop w l)

-- all of these hold
unfoldable pub all_of : List Bool → Bool
all_of [] = true
all_of (b ∷ bs) = let rest = all_of bs in b && rest

-- the n numbers from a on
unfoldable pub from : ℕ → ℕ → List ℕ
from a zero = []
from a (suc n) = a ∷ from (suc a) n

-- how many of the numbers below n pass
unfoldable pub count : (ℕ → Bool) → ℕ → ℕ
count p zero = 0
count p (suc n) = count p n + cond (p n) 1 0

-- each element has a property
abbrev pub All : {A : Type 0} → (A → Type 0) → List A → Type 0
All P [] = Unit {0}
All P (x ∷ xs) = P x × All P xs
