-- Sums and maxima as std says them, and as the rules do. Assumes nothing.
use Prim.Native.Nat.{ℕ, ◌+◌}
use mathlib.Core.Path.{◌≡◌, ◌∙◌}
use mathlib.Core.List.{List, [], ◌∷◌, map}
use native.Mathlib.Omega.{arith}
use Rattle.std.specs.List.{fold, sum, sum_by}
use Rattle.rules.specs.Default.{sum_of}
use Rattle.rules.proofs.Netting.{sum_cons, sum_none}

folded : (f : ℕ → ℕ) (a : ℕ) (l : List ℕ) → fold (λ s x. s + f x) a l ≡ a + sum_of (map f l)
folded f a [] = omega (arith, sum_none)
folded f a (x ∷ l) = folded f (a + f x) l ∙ omega (arith, sum_cons (f x) (map f l))

pub sum_by_is : (f : ℕ → ℕ) (l : List ℕ) → sum_by f l ≡ sum_of (map f l)
sum_by_is f l = omega (arith, folded f 0 l)

same_map : (l : List ℕ) → sum_of (map (λ x. x) l) ≡ sum_of l
same_map [] = omega arith
same_map (x ∷ l) = omega (arith, sum_cons x l, sum_cons x (map (λ y. y) l), same_map l)

pub sum_is : (l : List ℕ) → sum l ≡ sum_of l
sum_is l = sum_by_is (λ x. x) l ∙ same_map l
