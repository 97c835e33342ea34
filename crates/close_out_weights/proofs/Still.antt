-- Columns that are written from the front: what is not yet written, and a front of zeros. Assumes nothing.
use Prim.Native.Nat.{ℕ, zero, suc, ◌+◌, ◌≤◌}
use mathlib.Core.Path.{◌≡◌, refl, sym, ap, ◌∙◌}
use mathlib.Core.List.{List, ◌∷◌}
use native.Mathlib.Omega.{arith}
use native.Mathlib.Nat.{add-zero}
use lib.ListN.{get_or, set, take, drop, replicate}
use lib.Seq.{drop-drop, drop-set-lt, get_or-drop}

-- xs from place i on as it was at first
module _ (xs first : List ℕ) (i : ℕ) (known : drop i xs ≡ drop i first) where
  pub still_at : get_or xs i 0 ≡ get_or first i 0
  still_at = let e : i + 0 ≡ i = add-zero i in ap (λ n. get_or xs n 0) (sym e) ∙ sym (get_or-drop i xs 0 0) ∙ ap (λ l. get_or l 0 0) known ∙ get_or-drop i first 0 0 ∙ ap (λ n. get_or first n 0) e

  pub still_after : (x : ℕ) → drop (i + 1) (set xs i x) ≡ drop (i + 1) first
  still_after x = drop-set-lt (i + 1) xs i x (omega arith) ∙ sym (drop-drop 1 i xs) ∙ ap (drop 1) known ∙ drop-drop 1 i first

pub zeros_front : (n m : ℕ) → n ≤ m → take n (replicate {A = ℕ} m 0) ≡ replicate n 0
zeros_front zero m h = refl
zeros_front (suc n) zero h = absurd (omega arith)
zeros_front (suc n) (suc m) h = ap (λ (l : List ℕ). 0 ∷ l) (zeros_front n m (omega arith))
