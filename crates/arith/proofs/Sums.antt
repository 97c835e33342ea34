-- Sums of integers: rearranging them, and sums over 0 .. n - 1. Assumes nothing.
use mathlib.Core.Path.{◌≡◌, refl, sym, ap, ◌∙◌}
use mathlib.Core.Bool.{Bool, true, false}
use Prim.Native.Nat.{ℕ, zero, suc, ◌≤◌, ◌<◌}
use native.Mathlib.Omega.{arith}
use lib.Dec.{eqb}
use lib.IntN.{ℤ, pos, negsuc, ◌+ℤ◌, ◌*ℤ◌, neg_ℤ, pred_ℤ, suc_ℤ-+ℤ, pred_ℤ-+ℤ, suc_ℤ-*ℤ, pred_ℤ-*ℤ, zero-*ℤ, +ℤ_assoc, +ℤ_comm, +ℤ_idl, +ℤ_idr, +ℤ_invr, +ℤ_invl, neg_ℤ-+ℤ, neg_ℤ-neg_ℤ}
use Rattle.arith.specs.Ints.{when, sum}
use Rattle.arith.proofs.Tests.{by_eqb}

-- ---- `simp sorted` brings both sides of an equation of sums to one form
pub +ℤ_left_comm : (a b c : ℤ) → a +ℤ (b +ℤ c) ≡ b +ℤ (a +ℤ c)
+ℤ_left_comm a b c = sym (+ℤ_assoc a b c) ∙ ap (λ x. x +ℤ c) (+ℤ_comm a b) ∙ +ℤ_assoc b a c

pub ruleset sorted = (+ℤ_assoc, +ℤ_comm, +ℤ_left_comm, +ℤ_idl, +ℤ_idr)

-- `simp group`: a term and its negation cancel, next to each other or with one or two terms between them
pub cancel₁ : (a r : ℤ) → a +ℤ (neg_ℤ a +ℤ r) ≡ r
cancel₁ a r = sym (+ℤ_assoc a (neg_ℤ a) r) ∙ simp (+ℤ_invr, +ℤ_idl)

pub cancel₂ : (a r : ℤ) → neg_ℤ a +ℤ (a +ℤ r) ≡ r
cancel₂ a r = sym (+ℤ_assoc (neg_ℤ a) a r) ∙ simp (+ℤ_invl, +ℤ_idl)

pub far₁ : (a r s : ℤ) → a +ℤ (r +ℤ (neg_ℤ a +ℤ s)) ≡ r +ℤ s
far₁ a r s = ap (λ x. a +ℤ x) (+ℤ_left_comm r (neg_ℤ a) s) ∙ cancel₁ a (r +ℤ s)

pub far₁' : (a r : ℤ) → a +ℤ (r +ℤ neg_ℤ a) ≡ r
far₁' a r = ap (λ x. a +ℤ x) (+ℤ_comm r (neg_ℤ a)) ∙ cancel₁ a r

pub far₂ : (a q r s : ℤ) → a +ℤ (q +ℤ (r +ℤ (neg_ℤ a +ℤ s))) ≡ q +ℤ (r +ℤ s)
far₂ a q r s = +ℤ_left_comm a q (r +ℤ (neg_ℤ a +ℤ s)) ∙ ap (λ x. q +ℤ x) (far₁ a r s)

pub far₂' : (a q r : ℤ) → a +ℤ (q +ℤ (r +ℤ neg_ℤ a)) ≡ q +ℤ r
far₂' a q r = +ℤ_left_comm a q (r +ℤ neg_ℤ a) ∙ ap (λ x. q +ℤ x) (far₁' a r)

pub ruleset group = (sorted, neg_ℤ-+ℤ, neg_ℤ-neg_ℤ, +ℤ_invr, +ℤ_invl, cancel₁, cancel₂, far₁, far₁', far₂, far₂')

-- ---- products
minus_one : (c : ℤ) → negsuc zero *ℤ c ≡ neg_ℤ c
minus_one c = pred_ℤ-*ℤ (pos zero) c ∙ simp (zero-*ℤ, +ℤ_idl)

pub *ℤ_distrib : (a b c : ℤ) → (a +ℤ b) *ℤ c ≡ a *ℤ c +ℤ b *ℤ c
*ℤ_distrib (pos zero) b c = simp (+ℤ_idl, zero-*ℤ)
*ℤ_distrib (pos (suc n)) b c = ap (λ x. x *ℤ c) (suc_ℤ-+ℤ (pos n) b) ∙ suc_ℤ-*ℤ (pos n +ℤ b) c ∙ rw (*ℤ_distrib (pos n) b c) (simp sorted) ∙ ap (λ x. x +ℤ b *ℤ c) (sym (suc_ℤ-*ℤ (pos n) c))
*ℤ_distrib (negsuc zero) b c = ap (λ x. x *ℤ c) (pred_ℤ-+ℤ (pos zero) b ∙ ap pred_ℤ (+ℤ_idl b)) ∙ pred_ℤ-*ℤ b c ∙ +ℤ_comm (b *ℤ c) (neg_ℤ c) ∙ ap (λ x. x +ℤ b *ℤ c) (sym (minus_one c))
*ℤ_distrib (negsuc (suc n)) b c = ap (λ x. x *ℤ c) (pred_ℤ-+ℤ (negsuc n) b) ∙ pred_ℤ-*ℤ (negsuc n +ℤ b) c ∙ rw (*ℤ_distrib (negsuc n) b c) (simp sorted)
    ∙ ap (λ x. x +ℤ b *ℤ c) (sym (pred_ℤ-*ℤ (negsuc n) c))

-- ---- what counts only where a test passes
pub when_zero : (b : Bool) → when b (pos 0) ≡ pos 0
when_zero true = refl
when_zero false = refl

pub when_add : (b : Bool) (v w : ℤ) → when b (v +ℤ w) ≡ when b v +ℤ when b w
when_add true v w = refl
when_add false v w = refl

pub when_comm : (a b : Bool) (w : ℤ) → when a (when b w) ≡ when b (when a w)
when_comm true b w = refl
when_comm false b w = sym (when_zero b)

-- ---- sums over 0 .. n - 1
pub sum_zero : (n : ℕ) → sum n (λ i. pos 0) ≡ pos 0
unfolding sum
sum_zero zero = refl
sum_zero (suc n) = simp (sorted, sum_zero n)

pub sum_add : (n : ℕ) (f g : ℕ → ℤ) → sum n (λ i. f i +ℤ g i) ≡ sum n f +ℤ sum n g
unfolding sum
sum_add zero f g = refl
sum_add (suc n) f g = rw (sum_add n f g) (simp sorted)

pub sum_ext : (n : ℕ) (f g : ℕ → ℤ) → ((i : ℕ) → i < n → f i ≡ g i) → sum n f ≡ sum n g
unfolding sum
sum_ext zero f g e = refl
sum_ext (suc n) f g e = rw (sum_ext n f g (λ i h. e i (omega arith)), e n (omega arith))

-- a sum of one thing, at k
pub sum_out : (n k : ℕ) (w : ℤ) → n ≤ k → sum n (λ i. when (eqb k i) w) ≡ pos 0
sum_out n k w h = sum_ext n (λ i. when (eqb k i) w) (λ i. pos 0) (λ i l. by_eqb (λ b. when b w ≡ pos 0) k i (λ e. absurd (omega arith)) (λ d. refl)) ∙ sum_zero n

pub sum_at_lem : (n k : ℕ) (w : ℤ) → k < n → sum n (λ i. when (eqb k i) w) ≡ w
unfolding sum
sum_at_lem zero k w h = absurd (omega arith)
sum_at_lem (suc n) k w h =
    by_eqb (λ b. sum n (λ i. when (eqb k i) w) +ℤ when b w ≡ w) k n (λ e. simp (sorted, sum_out n k w (omega arith)))
    (λ d. simp (sorted, sum_at_lem n k w (omega arith)))
