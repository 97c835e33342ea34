-- Tests, and proofs by the value of a test. Assumes nothing.
use Prim.Native.Nat.{ℕ, suc, ◌+◌, ◌≤◌, ◌<◌}
use mathlib.Core.Path.{◌≡◌, refl, sym, ◌∙◌}
use mathlib.Core.Bool.{Bool, true, false, not, ◌&&◌, ◌||◌}
use mathlib.Core.List.{List, [], ◌∷◌, ◌++◌}
use native.Mathlib.Omega.{arith}
use native.Mathlib.Numerals.{add-one}
use lib.Dec.{T, eqb, eqb→eq, eqb_refl, leb, leb→le, nleb→lt, ltb}
use lib.ListN.{length, get_or, drop, drop_of_length-le}
use lib.Seq.{drop-cons}
use borrow.Author.Tests.{lt-ltb, le-ltb, le-leb, lt-leb, eq-eqb, ne_eqb, ltb-true}
use Rattle.arith.specs.Lists.{any}

-- no test has both values
pub never {ℓ} : {P : Type ℓ} → true ≡ false → P
never e = absurd (let z : ◌≡◌ {A = ℕ} 0 1 = cc in omega arith)

-- a proof by the two values of a test, each with what it says
pub by_bool {ℓ} : (P : Bool → Type ℓ) (b : Bool) → (b ≡ true → P true) → (b ≡ false → P false) → P b
by_bool P true f g = f refl
by_bool P false f g = g refl

pub by_leb {ℓ} : (P : Bool → Type ℓ) (m n : ℕ) → (m ≤ n → P true) → (n < m → P false) → P (leb m n)
by_leb P m n f g = go (leb m n) (leb→le m n) (nleb→lt m n)
  where
    go : (b : Bool) → (T b → m ≤ n) → (T (not b) → n < m) → P b
    go true s t = f (s tt)
    go false s t = g (t tt)

pub by_eqb {ℓ} : (P : Bool → Type ℓ) (m n : ℕ) → (m ≡ n → P true) → ((m ≡ n → ⊥) → P false) → P (eqb m n)
by_eqb P m n f g = go (eqb m n) (eqb→eq m n) (λ e. rw e (eqb_refl n))
  where
    go : (b : Bool) → (T b → m ≡ n) → (m ≡ n → T b) → P b
    go true s t = f (s tt)
    go false s t = g t

-- the same where the goal does not name the test
pub true_or {ℓ} : {P : Type ℓ} (b : Bool) → (b ≡ true → P) → (b ≡ false → P) → P
true_or {P = P} b f g = by_bool (λ _. P) b f g

pub le_or_lt {ℓ} : {P : Type ℓ} (m n : ℕ) → (m ≤ n → P) → (n < m → P) → P
le_or_lt {P = P} m n f g = by_leb (λ _. P) m n f g

pub same_or {ℓ} : {P : Type ℓ} (m n : ℕ) → (m ≡ n → P) → ((m ≡ n → ⊥) → P) → P
same_or {P = P} m n f g = by_eqb (λ _. P) m n f g

-- a test that passed, as a type and as an equation
pub passed : (b : Bool) → T b → b ≡ true
passed true t = refl
passed false t = absurd t

pub passes : (b : Bool) → b ≡ true → T b
passes true e = tt
passes false e = never (sym e)

pub failed : (b : Bool) → T (not b) → b ≡ false
failed true t = absurd t
failed false t = refl

-- two tests that hold together
pub same_test : (a b : Bool) → (a ≡ true → b ≡ true) → (b ≡ true → a ≡ true) → a ≡ b
same_test true b f g = sym (f refl)
same_test false true f g = g refl
same_test false false f g = refl

pub same_ltb : (a b c d : ℕ) → (a < b → c < d) → (c < d → a < b) → ltb a b ≡ ltb c d
same_ltb a b c d f g = same_test (ltb a b) (ltb c d) (λ t. lt-ltb c d (f (ltb-true a b t))) (λ t. lt-ltb a b (g (ltb-true c d t)))

pub and_left : (a b : Bool) → a && b ≡ true → a ≡ true
and_left true b e = refl
and_left false b e = e

pub and_right : (a b : Bool) → a && b ≡ true → b ≡ true
and_right true b e = e
and_right false b e = never (sym e)

-- two tests of which none holds
pub or_left : (a b : Bool) → a || b ≡ false → a ≡ false
or_left true b e = e
or_left false b e = refl

pub or_right : (a b : Bool) → a || b ≡ false → b ≡ false
or_right true b e = never e
or_right false b e = e

pub and_false : (a : Bool) → a && false ≡ false
and_false true = refl
and_false false = refl

pub and_true : (a : Bool) → a && true ≡ a
and_true true = refl
and_true false = refl

or_assoc : (a b c : Bool) → (a || b) || c ≡ a || (b || c)
or_assoc true b c = refl
or_assoc false b c = refl

pub or_false : (a : Bool) → a || false ≡ a
or_false true = refl
or_false false = refl

pub any_cons : {A : Type 0} (p : A → Bool) (x : A) (l : List A) → any p (x ∷ l) ≡ p x || any p l
unfolding any
any_cons p x l = refl

pub any_append : {A : Type 0} (p : A → Bool) (l m : List A) → any p (l ++ m) ≡ any p l || any p m
unfolding any
any_append p [] m = refl
any_append p (x ∷ l) m = rw (any_append p l m) (sym (or_assoc (p x) (any p l) (any p m)))

-- a list read from its front: found says whether one of the first i passed
module _ {A : Type 0} (p : A → Bool) (l : List A) (z : A) (i : ℕ) (found : Bool) (known : found || any p (drop i l) ≡ any p l) where
  pub any_next : i < length l → (found || p (get_or l i z)) || any p (drop (i + 1) l) ≡ any p l
  any_next h = or_assoc found (p (get_or l i z)) (any p (drop (i + 1) l)) ∙ rw (add-one, ← any_cons p (get_or l i z) (drop (suc i) l), ← drop-cons l i z h) known

  pub any_end : length l ≤ i → found ≡ any p l
  unfolding any
  any_end h = sym (or_false found) ∙ rw (drop_of_length-le l h) at known

-- ---- what a return goes by
-- each test that led there, as the Bool that the rules test
pub ruleset tests = (lt-ltb, le-ltb, le-leb, lt-leb, eq-eqb, ne_eqb)

-- a call's answer b to a test, where the code asks for its negation
pub asked_true : {b test : Bool} → b ≡ test → b ≡ true → test ≡ true
asked_true e n = sym e ∙ n

pub asked_false : {b test : Bool} → b ≡ test → b ≡ false → test ≡ false
asked_false e n = sym e ∙ n
