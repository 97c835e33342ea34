-- What is written over a list next to what was written. Assumes nothing.
use Prim.Native.Nat.{ℕ, ◌+◌, ◌≤◌}
use mathlib.Core.Path.{◌≡◌, refl, sym, ◌∙◌}
use mathlib.Core.List.{List, ◌++◌, append_assoc}
use native.Mathlib.Nat.{zero-add, add_assoc}
use native.Mathlib.Omega.{arith}
use lib.ListN.{length, take, drop, length-append}
use lib.Seq.{length-take-le, take-append_seam, take_at, drop-append-add, drop-drop}
use Rattle.arith.specs.Lists.{over}

module _ {A : Type 0} where
  pub over_beside : (a b : ℕ) (xs ys l : List A) → b ≡ a + length xs → a + length xs ≤ length l → over b ys (over a xs l) ≡ over a (xs ++ ys) l
  unfolding over
  over_beside a b xs ys l e h =
      let front : List A = take a l ++ xs in
      let wide : length front ≡ b = length-append (take a l) xs ∙ rw (length-take-le a l (omega arith)) (sym e) in
      let whole : take a l ++ (xs ++ drop (a + length xs) l) ≡ front ++ drop (a + length xs) l = sym (append_assoc (take a l) xs (drop (a + length xs) l)) in
      let past : drop (b + length ys) (front ++ drop (a + length xs) l) ≡ drop (a + length (xs ++ ys)) l =
      rw (← wide, drop-append-add front (drop (a + length xs) l) (length ys), drop-drop (length ys) (a + length xs) l, length-append xs ys, add_assoc) refl in
      rw (whole, take_at front (drop (a + length xs) l) b wide, past, append_assoc (take a l) xs (ys ++ drop (a + length (xs ++ ys)) l), append_assoc xs ys (drop (a + length (xs ++ ys)) l)) refl

  -- the same of lists that calls left
  pub over_next : (a b : ℕ) (xs ys l m k : List A) → m ≡ over a xs l → k ≡ over b ys m → b ≡ a + length xs → a + length xs ≤ length l → k ≡ over a (xs ++ ys) l
  over_next a b xs ys l m k e f g h = rw e at f ∙ over_beside a b xs ys l g h

  -- from the front on
  pub over_then : (b : ℕ) (xs ys l m k : List A) → m ≡ over 0 xs l → k ≡ over b ys m → b ≡ length xs → b ≤ length l → k ≡ over 0 (xs ++ ys) l
  over_then b xs ys l m k e f g h = over_next 0 b xs ys l m k e f (g ∙ sym (zero-add (length xs))) (rw (zero-add, ← g) h)

-- What was written at the front.
pub take_over : {A : Type 0} (xs l : List A) → take (length xs) (over 0 xs l) ≡ xs
unfolding over
take_over xs l = take-append_seam xs _
