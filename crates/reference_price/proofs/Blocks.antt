-- The same list written inside each block of another. Assumes nothing.
use mathlib.Core.Path.{◌≡◌, sym, ap, ◌∙◌}
use mathlib.Core.List.{List, ◌++◌, append_assoc}
use Prim.Native.Nat.{ℕ, zero, suc, ◌+◌, ◌*◌, ◌≤◌}
use native.Mathlib.Omega.{arith}
use native.Mathlib.Nat.{add_assoc, zero-add, zero-mul, suc-mul}
use lib.ListN.{length, take, drop, length-drop, take-append-drop}
use lib.Seq.{length-take-le, take-take, take-append-add, drop-append-add, drop-append-le}
use Rattle.arith.specs.Lists.{over, in_each_block}
use Rattle.arith.proofs.Overs.{over_length}

module _ {A : Type 0} where
  over_behind : (m : ℕ) (ys a b : List A) → over (length a + m) ys (a ++ b) ≡ a ++ over m ys b
  unfolding over
  over_behind m ys a b =
      rw (take-append-add a b m, add_assoc (length a) m (length ys), drop-append-add a b (m + length ys))
      (append_assoc a (take m b) (ys ++ drop (m + length ys) b))

  module _ (w k : ℕ) (ys : List A) (fits : k + length ys ≤ w) where
    first_block : (l : List A) → w ≤ length l → over k ys (take w l) ++ drop w l ≡ over k ys l
    unfolding over
    first_block l h =
        let rest : drop (k + length ys) (take w l) ++ drop w l ≡ drop (k + length ys) l
        = sym (drop-append-le (k + length ys) (take w l) (drop w l) (rw (length-take-le w l h) fits)) ∙ ap (drop (k + length ys)) (take-append-drop w l) in
        rw (take-take k w l (omega arith))
        (append_assoc (take k l) (ys ++ drop (k + length ys) (take w l)) (drop w l)
        ∙ ap (λ r. take k l ++ r) (append_assoc ys (drop (k + length ys) (take w l)) (drop w l) ∙ ap (λ r. ys ++ r) rest))

    -- the next block
    pub inside_written : (n : ℕ) (l : List A) → suc n * w ≤ length l → over (n * w + k) ys (in_each_block w (over k ys) n l) ≡ in_each_block w (over k ys) (suc n) l
    unfolding in_each_block
    inside_written zero l h = rw (zero-mul w, zero-add k) (sym (first_block l (omega (arith, suc-mul zero w, zero-mul w))))
    inside_written (suc n) l h =
        let long : w ≤ length l = omega (arith, suc-mul (suc n) w) in
        let one = over k ys (take w l) in
        let many : length one ≡ w = over_length k ys (take w l) (rw (length-take-le w l long) fits) ∙ length-take-le w l long in
        let place : suc n * w + k ≡ length one + (n * w + k) = omega (arith, suc-mul n w, many) in
        rw place (over_behind (n * w + k) ys one (in_each_block w (over k ys) n (drop w l)))
        ∙ ap (λ r. one ++ r) (inside_written n (drop w l) (simp length-drop (omega (arith, suc-mul (suc n) w))))
