-- Lists written over a part of another, as the code writes them. Assumes nothing.
use mathlib.Core.Path.{◌≡◌, refl, sym, ap, ◌∙◌}
use mathlib.Core.List.{List, [], ◌∷◌, ◌++◌, append_assoc, append-nil}
use Prim.Native.Nat.{ℕ, zero, suc, ◌+◌, ◌*◌, ◌-◌, ◌<◌, ◌≤◌}
use native.Mathlib.Omega.{arith}
use native.Mathlib.Nat.{zero-add, add_assoc, add_comm, zero-mul, suc-mul}
use native.Mathlib.Numerals.{add-one}
use lib.ListN.{length, take, drop, get_or, set, replicate, length-replicate, drop_of_length-le, length-append, length-take, length-drop, take-append-drop}
use lib.Seq.{length-take-le, take_all, sets, sets-eq, take-append_seam, drop-append-add, drop-append-le, drop-drop}
use Rattle.arith.specs.Lists.{over, in_each_block}

module _ {A : Type 0} where
  -- Stores one after the other are a list written over the places.
  pub stored : (vs l : List A) (a : ℕ) → a + length vs ≤ length l → sets l a vs ≡ over a vs l
  unfolding over
  stored vs l a h = sets-eq vs l a h ∙ append_assoc (take a l) vs (drop (a + length vs) l)

  -- A part that was lent and came back is written over its places.
  pub came_back : (a n : ℕ) (l ys : List A) → length ys ≡ n → take a l ++ (ys ++ drop n (drop a l)) ≡ over a ys l
  unfolding over
  came_back a n l ys e = rw (drop-drop n a l, e)

  pub filled : (a n : ℕ) (l : List A) (v : A) → a + n ≤ length l
      → take a l ++ (replicate (length (take (a + n - a) (drop a l))) v ++ drop (a + n - a) (drop a l)) ≡ over a (replicate n v) l
  filled a n l v h =
      let cut : a + n - a ≡ n = omega arith in
      let part : length (take n (drop a l)) ≡ n = rw (length-take n (drop a l), length-drop a l) (omega arith) in
      rw (cut, part) (came_back a n l (replicate n v) (length-replicate n v))

  -- A list written behind the first n places leaves these as they are.
  pub over_seam : (n : ℕ) (d r ys : List A) → length d ≡ n → over n ys (d ++ r) ≡ d ++ (ys ++ drop (length ys) r)
  unfolding over
  over_seam n d r ys e = rw (← e, take-append_seam d r, drop-append-add d r (length ys))

  pub over_more : (n : ℕ) (xs ys l : List A) → length xs ≡ n → over n ys (over 0 xs l) ≡ over 0 (xs ++ ys) l
  unfolding over
  over_more n xs ys l e =
      over_seam n xs (drop (0 + length xs) l) ys e
      ∙ rw (drop-drop (length ys) (0 + length xs) l, length-append xs ys, ← add_assoc 0 (length xs) (length ys), append_assoc xs ys (drop (0 + length xs + length ys) l))

-- ---- written over the front of a block, or over all of it
module _ {A : Type 0} where
  pub over_front : (ys x : List A) → over 0 ys x ≡ ys ++ drop (length ys) x
  unfolding over
  over_front ys x = rw (zero-add (length ys))

  pub over_all : (ys x : List A) → length x ≤ length ys → ys ≡ ys ++ drop (length ys) x
  over_all ys x h = rw (drop_of_length-le x h) (sym (append-nil ys))

-- ---- a list written element by element from the front of another
module _ {A : Type 0} where
  front_suc : (n : ℕ) (s d : List A) (z : A) → n < length s → n < length d → set (take n s ++ drop n d) n (get_or s n z) ≡ take (suc n) s ++ drop (suc n) d
  front_suc n [] d z h g = absurd (omega arith)
  front_suc n (x ∷ s) [] z h g = absurd (omega arith)
  front_suc zero (x ∷ s) (y ∷ d) z h g = refl
  front_suc (suc n) (x ∷ s) (y ∷ d) z h g = ap (λ t. x ∷ t) (front_suc n s d z (omega arith) (omega arith))

  pub front_next : (n : ℕ) (s d : List A) (z : A) → n < length s → n < length d → set (take n s ++ drop n d) n (get_or s n z) ≡ take (n + 1) s ++ drop (n + 1) d
  front_next n s d z h g = rw (add-one n) (front_suc n s d z h g)

  pub front_end : (n : ℕ) (s d : List A) → length s ≤ n → length d ≤ n → take n s ++ drop n d ≡ s
  front_end n s d h g = rw (take_all n s h, drop_of_length-le d g) (append-nil s)

-- ---- f done in each block: what is done, and the rest as it was
module _ {A : Type 0} (w : ℕ) (f : List A → List A) (keeps : (x : List A) → length x ≡ w → length (f x) ≡ w) where
  done_blocks : ℕ → List A → List A
  done_blocks zero l = []
  done_blocks (suc n) l = f (take w l) ++ done_blocks n (drop w l)

  done_rest : (n : ℕ) (l : List A) → in_each_block w f n l ≡ done_blocks n l ++ drop (n * w) l
  unfolding in_each_block done_blocks
  done_rest zero l = rw (zero-mul w)
  done_rest (suc n) l =
      rw (done_rest n (drop w l), drop-drop (n * w) w l, suc-mul n w)
      (rw (add_comm w (n * w)) (sym (append_assoc (f (take w l)) (done_blocks n (drop w l)) (drop (n * w + w) l))))

  done_length : (n : ℕ) (l : List A) → n * w ≤ length l → length (done_blocks n l) ≡ n * w
  unfolding done_blocks
  done_length zero l h = sym (zero-mul w)
  done_length (suc n) l h =
      let h' : n * w + w ≤ length l = rw (suc-mul n w) at h in
      rw (length-append, suc-mul n w, keeps (take w l) (rw (length-take w l) (omega arith)), done_length n (drop w l) (rw (length-drop w l) (omega arith))) (omega arith)

  done_more : (n : ℕ) (l : List A) → done_blocks (suc n) l ≡ done_blocks n l ++ f (take w (drop (n * w) l))
  unfolding done_blocks
  done_more zero l = rw (zero-mul w) (append-nil (f (take w l)))
  done_more (suc n) l =
      rw (done_more n (drop w l), drop-drop (n * w) w l, suc-mul n w)
      (rw (add_comm w (n * w)) (sym (append_assoc (f (take w l)) (done_blocks n (drop w l)) (f (take w (drop (n * w + w) l))))))

  -- The next block, where f writes ys over its front.
  pub block_written : (ys : List A) (n : ℕ) (l : List A) → f (take w (drop (n * w) l)) ≡ ys ++ drop (length ys) (take w (drop (n * w) l))
      → length ys ≤ w → suc n * w ≤ length l → over (n * w) ys (in_each_block w f n l) ≡ in_each_block w f (suc n) l
  block_written ys n l writes small fits =
      let fits' : n * w + w ≤ length l = rw (suc-mul n w) at fits in
      let done = done_blocks n l in
      let rest = drop (n * w) l in
      let long : length done ≡ n * w = done_length n l (omega arith) in
      let front : length (take w rest) ≡ w = rw (length-take w rest, length-drop (n * w) l) (omega arith) in
      let over-rest : drop (length ys) rest ≡ drop (length ys) (take w rest) ++ drop w rest
      = ap (drop (length ys)) (sym (take-append-drop w rest)) ∙ drop-append-le (length ys) (take w rest) (drop w rest) (rw front small) in
      rw (done_rest n l, done_rest (suc n) l, done_more n l, writes, suc-mul n w, ← drop-drop w (n * w) l)
      (over_seam (n * w) done rest ys long ∙ rw over-rest (simp append_assoc))

-- ---- the first n places of a list, lent and come back
module _ {A : Type 0} (n : ℕ) (ys l : List A) (same : length ys ≡ length (take n l)) (fits : n ≤ length l) where
  as_many : length ys ≡ n
  as_many = same ∙ length-take-le n l fits

  pub again_long : n ≤ length (ys ++ drop n l)
  again_long = rw (length-append ys (drop n l)) (omega (arith, as_many))

  pub again_front : take n (ys ++ drop n l) ≡ ys
  again_front = rw (← as_many) (take-append_seam ys (drop (length ys) l))

  pub again_many : n ≡ length (take n (ys ++ drop n l))
  again_many = sym as_many ∙ ap length (sym again_front)
