-- The table of months' first days: each entry is the one before it and that month's days. It is one test of the whole table, carried to each entry;
-- antt computes it in the proof of each function that reads the table, since a constant array stands in the code of each. Assumes nothing.
use Prim.Native.Nat.{ℕ, zero, suc, ◌+◌, ◌<◌}
use mathlib.Core.Path.{◌≡◌, sym, ap, ◌∙◌}
use mathlib.Core.Bool.{Bool, true, false}
use mathlib.Core.List.{List, [], ◌∷◌}
use native.Mathlib.Nat.{add-zero, zero-add, add-suc, suc-add, le_of_suc-le-suc, not-suc-le-zero}
use lib.Dec.{T, eqb, eqb→eq}
use lib.ListN.{length, get_or}
use Rattle.rules.specs.Days.{month_length, month_start}
use Rattle.rules.proofs.CalendarLaws.{month_zero, month_next}

abbrev both : Bool → Bool → Bool
both true b = b
both false b = false

both_left : (a b : Bool) → T (both a b) → T a
both_left true b t = tt
both_left false b t = t

both_right : (a b : Bool) → T (both a b) → T b
both_right true b t = t
both_right false b t = absurd t

-- The first entry is x, the start of month i, and each other one the entry before it and its month's days.
abbrev pub steps : ℕ → ℕ → List ℕ → Bool
steps i x [] = true
steps i x (y ∷ ys) = both (eqb y x) (steps (suc i) (y + month_length i) ys)

from : (xs : List ℕ) (i x : ℕ) → month_start i ≡ x → T (steps i x xs) → (k : ℕ) → k < length xs → get_or xs k 0 ≡ month_start (i + k)
from [] i x e t k h = absurd (not-suc-le-zero h)
from (y ∷ ys) i x e t zero h = eqb→eq y x (both_left (eqb y x) (steps (suc i) (y + month_length i) ys) t) ∙ sym e ∙ ap month_start (sym (add-zero i))
from (y ∷ ys) i x e t (suc k) h =
    let here = eqb→eq y x (both_left (eqb y x) (steps (suc i) (y + month_length i) ys) t) in
    from ys (suc i) (y + month_length i) (month_next i ∙ ap (λ (n : ℕ). n + month_length i) (e ∙ sym here)) (both_right (eqb y x) (steps (suc i) (y + month_length i) ys) t) k (le_of_suc-le-suc h)
    ∙ ap month_start (suc-add i k ∙ sym (add-suc i k))

pub at : (xs : List ℕ) (k : ℕ) → T (steps 0 0 xs) → k < length xs → get_or xs k 0 ≡ month_start k
at xs k t h = from xs 0 0 month_zero t k h ∙ ap month_start (zero-add k)
