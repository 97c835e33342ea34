-- Proofs by whether a number lies among others that follow each other. Assumes nothing.
use Prim.Native.Nat.{ℕ, zero, suc, ◌+◌, ◌≤◌, ◌<◌}
use mathlib.Core.Path.{◌≡◌, refl, sym}
use mathlib.Core.Bool.{Bool, true, false, ◌&&◌, ◌||◌}
use native.Mathlib.Omega.{arith}
use lib.Dec.{T, eqb, leb, ltb}
use borrow.Author.Tests.{eq-eqb, ne_eqb}
use Rattle.arith.specs.Lists.{every, any, from}
use Rattle.arith.proofs.Tests.{by_leb, by_eqb, same_or}

-- d lies from a up to but not including b
pub by_span {ℓ} : (P : Bool → Type ℓ) (a b d : ℕ) → (a ≤ d → d < b → P true) → ((a ≤ d → d < b → ⊥) → P false) → P (leb a d && ltb d b)
by_span P a b d f g =
    by_leb (λ t. P (t && ltb d b)) a d (λ h. by_leb P (suc d) b (λ k. f h k) (λ k. g (λ x y. omega arith)))
    (λ h. g (λ x y. omega arith))

-- d is one of the n numbers from a on
pub by_among {ℓ} : (P : Bool → Type ℓ) (a n d : ℕ) → (a ≤ d → d < a + n → P true) → ((a ≤ d → d < a + n → ⊥) → P false)
    → P (any (λ x. eqb x d) (from a n))
unfolding any from
by_among P a zero d f g = g (λ h k. omega arith)
by_among P a (suc n) d f g =
    by_eqb (λ b. P (b || any (λ x. eqb x d) (from (suc a) n))) a d (λ e. f (omega arith) (omega arith))
    (λ z. by_among P (suc a) n d (λ h k. f (omega arith) (omega arith)) (λ out. g (λ h k. out (omega arith) (omega arith))))

pub not_among : (a n d : ℕ) → (a ≤ d → d < a + n → ⊥) → any (λ x. eqb x d) (from a n) ≡ false
not_among a n d out = by_among (λ b. b ≡ false) a n d (λ h k. absurd (out h k)) (λ _. refl)

-- exactly if two other numbers are the same
pub among_if : (a n d x y : ℕ) → (a ≤ d → d < a + n → x ≡ y) → (x ≡ y → (a ≤ d) × (d < a + n)) → any (λ z. eqb z d) (from a n) ≡ eqb x y
among_if a n d x y f g =
    by_among (λ b. b ≡ eqb x y) a n d (λ h k. sym (eq-eqb x y (f h k))) (λ out. sym (ne_eqb x y (λ e. out (g e).0 (g e).1)))

both : (a b : Bool) → T (a && b) → T a × T b
both true b t = (tt, t)
both false b t = absurd t

each : (a b : Bool) → T a → T b → T (a && b)
each true b t u = u
each false b t u = t

-- what each of them passes, this one passes
pub every_from : (p : ℕ → Bool) (a n : ℕ) → T (every p (from a n)) → (i : ℕ) → a ≤ i → i < a + n → T (p i)
unfolding every from
every_from p a zero t i h k = absurd (omega arith)
every_from p a (suc n) t i h k =
    let b = both (p a) (every p (from (suc a) n)) t in
    same_or i a (λ e. rw e b.0) (λ e. every_from p (suc a) n b.1 i (omega arith) (omega arith))

-- a test that each number from a on passes holds of them all
pub from_every : (p : ℕ → Bool) (a n : ℕ) → ((i : ℕ) → a ≤ i → i < a + n → T (p i)) → T (every p (from a n))
unfolding every from
from_every p a zero f = tt
from_every p a (suc n) f = each (p a) (every p (from (suc a) n)) (f a (omega arith) (omega arith)) (from_every p (suc a) n (λ i h k. f i (omega arith) (omega arith)))
