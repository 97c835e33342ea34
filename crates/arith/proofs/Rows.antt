-- Tests of the first n places of each of m blocks of w: as one part, or column by column. Assumes nothing.
use mathlib.Core.Path.{◌≡◌, refl, sym, ◌∙◌}
use mathlib.Core.Bool.{Bool, true, ◌&&◌, and_assoc}
use mathlib.Core.List.{List, [], ◌∷◌, ◌++◌}
use Prim.Native.Nat.{ℕ, zero, suc, ◌+◌, ◌*◌, ◌<◌}
use native.Mathlib.Nat.{suc-mul, zero-mul, add_comm, le_refl}
use lib.ListN.{take, drop, get_or}
use lib.Seq.{take-add, take-take, take-nil, get_or-take, get_or-drop}
use Rattle.arith.specs.Lists.{every, every_block}
use Rattle.arith.proofs.Tests.{and_true, and_left, and_right}
use Rattle.arith.proofs.Scans.{and_swap, every_weaker}

-- Where each place that passes p passes q, all do that all pass p.
module _ {A : Type 0} (p q : A → Bool) (weaker : (x : A) → p x ≡ true → q x ≡ true) where
  pub rows_weaker : (w n m : ℕ) (l : List A) → every_block w (λ row. every p (take n row)) m l ≡ true → every_block w (λ row. every q (take n row)) m l ≡ true
  unfolding every_block
  rows_weaker w n zero l e = refl
  rows_weaker w n (suc m) l e =
      let here = every p (take n (take w l)) in
      let rest = every_block w (λ row. every p (take n row)) m (drop w l) in
      rw (every_weaker p q weaker (take n (take w l)) (and_left here rest e)) (rows_weaker w n m (drop w l) (and_right here rest e))

module _ {A : Type 0} (p : A → Bool) where
  every_append : (xs ys : List A) → every p (xs ++ ys) ≡ every p xs && every p ys
  unfolding every
  every_append [] ys = refl
  every_append (x ∷ xs) ys = rw (every_append xs ys) (sym (and_assoc (p x) (every p xs) (every p ys)))

  -- Whole blocks, one after the other, are one part.
  pub whole_rows : (w m : ℕ) (l : List A) → every p (take (m * w) l) ≡ every_block w (λ row. every p (take w row)) m l
  unfolding every every_block
  whole_rows w zero l = rw (zero-mul w)
  whole_rows w (suc m) l =
      rw (suc-mul m w, add_comm (m * w) w, take-add w (m * w) l, every_append (take w l) (take (m * w) (drop w l)), whole_rows w m (drop w l), take-take w w l (le_refl w))

  pub no_column : (w m : ℕ) (l : List A) → every_block w (λ row. every p (take 0 row)) m l ≡ true
  unfolding every every_block
  no_column w zero l = refl
  no_column w (suc m) l = no_column w m (drop w l)

  -- Rows of n + 1 places are rows of n and one column more.
  module _ (z : A) (passes : p z ≡ true) where
    take_more : (n : ℕ) (row : List A) → every p (take (suc n) row) ≡ every p (take n row) && p (get_or row n z)
    unfolding every
    take_more n [] = rw (take-nil n, passes)
    take_more zero (x ∷ xs) = and_true (p x)
    take_more (suc n) (x ∷ xs) = rw (take_more n xs) (sym (and_assoc (p x) (every p (take n xs)) (p (get_or xs n z))))

    pub next_column : (n w m : ℕ) (l : List A)
        → every_block w (λ row. every p (take (suc n) row)) m l ≡ every_block w (λ row. every p (take n row)) m l && every_block w (λ row. p (get_or row n z)) m l
    unfolding every_block
    next_column n w zero l = refl
    next_column n w (suc m) l =
        let row = take w l in
        let rest = drop w l in
        rw (take_more n row, next_column n w m rest)
        (and_swap (every p (take n row)) (p (get_or row n z)) (every_block w (λ row. every p (take n row)) m rest) (every_block w (λ row. p (get_or row n z)) m rest))

-- Two tests of each block.
pub blocks_both : {A : Type 0} (p q : List A → Bool) (w m : ℕ) (l : List A) → every_block w (λ b. p b && q b) m l ≡ every_block w p m l && every_block w q m l
unfolding every_block
blocks_both p q w zero l = refl
blocks_both p q w (suc m) l = rw (blocks_both p q w m (drop w l)) (and_swap (p (take w l)) (q (take w l)) (every_block w p m (drop w l)) (every_block w q m (drop w l)))

-- A place of a block, in the whole list.
pub place_at : {A : Type 0} (l : List A) (z : A) (w c n : ℕ) → n < w → get_or (take w (drop (c * w) l)) n z ≡ get_or l (c * w + n) z
place_at l z w c n h = get_or-take w (drop (c * w) l) n z h ∙ get_or-drop (c * w) l n z
