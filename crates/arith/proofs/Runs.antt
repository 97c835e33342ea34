-- What is made of numbers that follow each other. Assumes nothing.
use Prim.Native.Nat.{ℕ, suc, ◌+◌, ◌-◌, ◌<◌}
use mathlib.Core.List.{List, [], ◌∷◌, map}
use mathlib.Core.Path.{◌≡◌, refl, ap, ◌∙◌}
use native.Mathlib.Nat.{add-zero, zero-add}
use native.Mathlib.Omega.{arith}
use lib.ListN.{length, get_or, length-map}
use Rattle.arith.specs.Lists.{from}
use Rattle.arith.proofs.Appends.{from_length}

pub length_run : {A : Type 0} (f : ℕ → A) (n : ℕ) → length (map f (from 0 n)) ≡ n
length_run f n = length-map (from 0 n) f ∙ from_length 0 n

run_from : {A : Type 0} (f : ℕ → A) (l : List A) (d : A) (a : ℕ) → ((i : ℕ) → i < length l → f (a + i) ≡ get_or l i d) → map f (from a (length l)) ≡ l
unfolding from
run_from f [] d a e = refl
run_from f (x ∷ l) d a e =
    let first : f a ≡ x = rw add-zero at (e 0 (omega arith)) in
    rw first (ap (λ r. x ∷ r) (run_from f l d (suc a) (λ i h. ap f (let k : suc a + i ≡ a + suc i = omega arith in k) ∙ e (suc i) (omega arith))))

-- A list is the run of what stands at its places.
pub run_of : {A : Type 0} (f : ℕ → A) (l : List A) (d : A) → ((i : ℕ) → i < length l → f i ≡ get_or l i d) → map f (from 0 (length l)) ≡ l
run_of f l d e = run_from f l d 0 (λ i h. ap f (zero-add i) ∙ e i h)
