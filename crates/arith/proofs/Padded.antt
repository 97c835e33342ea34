-- Columns filled from the front. Assumes nothing.
use Prim.Native.Nat.{ℕ, suc, ◌+◌, ◌-◌, ◌<◌}
use mathlib.Core.List.{List, [], ◌∷◌, ◌++◌, map, append_assoc}
use mathlib.Core.Path.{◌≡◌, refl, sym, ap, ◌∙◌}
use native.Mathlib.Nat.{zero-add}
use native.Mathlib.Numerals.{add-one}
use native.Mathlib.Omega.{arith}
use lib.ListN.{length, get_or, set, replicate, length-append, get_or-append}
use lib.Seq.{set_at}
use Rattle.arith.specs.Columns.{padded}
use Rattle.arith.specs.Lists.{from}
use Rattle.arith.proofs.Appends.{from_more, map_append}
use Rattle.arith.proofs.Runs.{length_run}

pub padded_at : (n : ℕ) (l : List ℕ) (i : ℕ) → i < length l → get_or (padded n l) i 0 ≡ get_or l i 0
unfolding padded
padded_at n l i h = get_or-append l (replicate (n - length l) 0) 0 i h

pub padded_set : (n : ℕ) (l : List ℕ) (v : ℕ) → length l < n → set (padded n l) (length l) v ≡ padded n (l ++ (v ∷ []))
unfolding padded
padded_set n l v h = rw gap (set_at l 0 (replicate (n - suc (length l)) 0) v (length l) refl ∙ rw (length-append, append_assoc, add-one) refl)
  where
    gap : n - length l ≡ suc (n - suc (length l))
    gap = omega arith

pub column_filled : (g : ℕ → ℕ) (n i : ℕ) {column : List ℕ} {x : ℕ} → i < n → x ≡ g i → column ≡ padded n (map g (from 0 i)) → set column i x ≡ padded n (map g (from 0 (i + 1)))
column_filled g n i {column} {x} h e c =
    let sized : length (map g (from 0 i)) ≡ i = length_run g i in
    let more : map g (from 0 (i + 1)) ≡ map g (from 0 i) ++ (x ∷ []) = rw (add-one, from_more, zero-add) (map_append g (from 0 i) (i ∷ []) ∙ rw (← e) refl) in
    rw (more, c) (ap (λ k. set (padded n (map g (from 0 i))) k x) (sym sized) ∙ padded_set n (map g (from 0 i)) x (rw sized h))
