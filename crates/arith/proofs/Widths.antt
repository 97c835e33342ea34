-- Things of one width, written one after the other. Assumes nothing.
use Prim.Native.Nat.{ℕ, ◌+◌, ◌*◌, ◌≤◌}
use mathlib.Core.List.{List, [], ◌∷◌, ◌++◌, map, flat_map}
use mathlib.Core.Path.{◌≡◌, refl, sym, ap, ◌∙◌}
use native.Mathlib.Nat.{add-zero, zero-add, mul_comm}
use native.Mathlib.Numerals.{add-one}
use lib.ListN.{length, take-append-drop}
use Rattle.arith.specs.Lists.{from, over}
use Rattle.arith.proofs.Appends.{from_more, map_append, flat_append, flat_one, flat_length}
use Rattle.arith.proofs.Beside.{over_next}
use Rattle.arith.proofs.Runs.{length_run}

module _ {A C : Type 0} (f : A → List C) (w : ℕ) (wide : (x : A) → length (f x) ≡ w) (g : ℕ → A) where
  length_blocks : (i : ℕ) → length (flat_map f (map g (from 0 i))) ≡ w * i
  length_blocks i = flat_length w f wide (map g (from 0 i)) ∙ (ap (λ k. k * w) (length_run g i) ∙ mul_comm i w)

  -- from place a on: those before, and one more
  pub blocks_next : (a i : ℕ) (x : A) (l m k : List C) → x ≡ g i → m ≡ over a (flat_map f (map g (from 0 i))) l → k ≡ over (a + w * i) (f x) m → a + w * i ≤ length l
      → k ≡ over a (flat_map f (map g (from 0 (i + 1)))) l
  blocks_next a i x l m k e p q h =
      let before = map g (from 0 i) in
      let more : flat_map f (map g (from 0 (i + 1))) ≡ flat_map f before ++ f x =
      rw (add-one, from_more, zero-add, map_append g (from 0 i) (i ∷ []), flat_append f before (g i ∷ []), flat_one f (g i), ← e) refl in
      rw more (over_next a (a + w * i) _ _ l m k p q (ap (λ n. a + n) (sym (length_blocks i))) (rw (length_blocks i) h))

  pub blocks_none : (a : ℕ) (l : List C) → l ≡ over a (flat_map f (map g (from 0 0))) l
  unfolding flat_map from over
  blocks_none a l = rw add-zero (sym (take-append-drop a l))
