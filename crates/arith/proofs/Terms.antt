-- Sums over 0 .. n - 1 of which only one or three terms count. Assumes nothing.
use mathlib.Core.Path.{◌≡◌, refl, ap, ◌∙◌}
use mathlib.Core.Bool.{Bool, true, false, ◌||◌}
use Prim.Native.Nat.{ℕ, ◌<◌}
use native.Mathlib.Omega.{arith}
use lib.Dec.{eqb}
use lib.IntN.{ℤ, ◌+ℤ◌}
use borrow.Author.Tests.{eqb-true, ne_eqb}
use Rattle.arith.specs.Ints.{when, sum}
use Rattle.arith.proofs.Tests.{by_eqb}
use Rattle.arith.proofs.Sums.{sorted, sum_add, sum_ext, sum_at_lem}

-- what counts under one of two tests that never both pass
pub when_or : (a b : Bool) (w : ℤ) → (a ≡ true → b ≡ false) → when (a || b) w ≡ when a w +ℤ when b w
when_or true b w f = rw (f refl) (simp sorted)
when_or false b w f = simp sorted

pub sum_one : (n : ℕ) (f : ℕ → ℤ) (k : ℕ) → k < n → sum n (λ c. when (eqb k c) (f c)) ≡ f k
sum_one n f k h = sum_ext n _ _ (λ c l. by_eqb (λ b. when b (f c) ≡ when b (f k)) k c (λ e. rw e) (λ _. refl)) ∙ sum_at_lem n k (f k) h

pub sum_three : (n : ℕ) (f : ℕ → ℤ) (x y z : ℕ) → x < y → y < z → z < n → sum n (λ c. when (eqb x c || (eqb y c || eqb z c)) (f c)) ≡ f x +ℤ (f y +ℤ f z)
sum_three n f x y z h k l =
    sum_ext n _ _ (λ c _. when_or (eqb x c) (eqb y c || eqb z c) (f c) (λ t. rw (ne_eqb y c (omega (arith, eqb-true x c t)), ne_eqb z c (omega (arith, eqb-true x c t))))
    ∙ ap (λ r. when (eqb x c) (f c) +ℤ r) (when_or (eqb y c) (eqb z c) (f c) (λ t. ne_eqb z c (omega (arith, eqb-true y c t)))))
    ∙ sum_add n (λ c. when (eqb x c) (f c)) (λ c. when (eqb y c) (f c) +ℤ when (eqb z c) (f c))
    ∙ rw (sum_add n (λ c. when (eqb y c) (f c)) (λ c. when (eqb z c) (f c)), sum_one n f x (omega arith), sum_one n f y (omega arith), sum_one n f z l)
