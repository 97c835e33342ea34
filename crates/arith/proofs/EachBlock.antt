-- A list in blocks of w places: tests passed block by block, and what is done in each block. Assumes nothing.
use Prim.Native.Nat.{ℕ, zero, suc, ◌+◌, ◌*◌, ◌-◌, ◌≤◌, ◌<◌}
use mathlib.Core.Path.{◌≡◌, refl, sym, ap, ◌∙◌}
use mathlib.Core.Bool.{Bool, true}
use mathlib.Core.List.{List, ◌++◌}
use native.Mathlib.Omega.{arith}
use native.Mathlib.Nat.{suc-mul, zero-mul}
use lib.ListN.{length, take, drop, get_or, length-drop, length-append}
use lib.Seq.{length-take-le, drop-drop, take_at, drop_at, get_or-take, get_or-drop}
use Rattle.arith.specs.Lists.{every_block, in_each_block}
use Rattle.arith.proofs.Tests.{same_or, and_left, and_right}

module _ {A : Type 0} (w : ℕ) where
  -- the block of number c
  abbrev pub block : ℕ → List A → List A
  block c l = take w (drop (c * w) l)

  first_block : (l : List A) → block 0 l ≡ take w l
  first_block l = rw (zero-mul w)

  next_block : (c : ℕ) (l : List A) → block (suc c) l ≡ block c (drop w l)
  next_block c l = let e : suc c * w ≡ w + c * w = omega (arith, suc-mul c w) in rw (e, drop-drop (c * w) w l)

  pub block_at : (c j : ℕ) (l : List A) (z : A) → j < w → get_or (block c l) j z ≡ get_or l (c * w + j) z
  block_at c j l z h = get_or-take w (drop (c * w) l) j z h ∙ get_or-drop (c * w) l j z

  -- every block passes exactly if each of them does
  pub block_passes : (p : List A → Bool) (n : ℕ) (l : List A) → every_block w p n l ≡ true → (c : ℕ) → c < n → p (block c l) ≡ true
  unfolding every_block
  block_passes p zero l e c h = absurd (omega arith)
  block_passes p (suc n) l e zero h = rw (first_block l) (and_left (p (take w l)) (every_block w p n (drop w l)) e)
  block_passes p (suc n) l e (suc c) h = rw (next_block c l) (block_passes p n (drop w l) (and_right (p (take w l)) (every_block w p n (drop w l)) e) c (omega arith))

  pub every_block_lem : (p : List A → Bool) (n : ℕ) (l : List A) → ((c : ℕ) → c < n → p (block c l) ≡ true) → every_block w p n l ≡ true
  unfolding every_block
  every_block_lem p zero l f = refl
  every_block_lem p (suc n) l f = rw (sym (ap p (first_block l)) ∙ f 0 (omega arith)) (every_block_lem p n (drop w l) (λ c h. sym (ap p (next_block c l)) ∙ f (suc c) (omega arith)))

  -- f turns a block that passes q into one that passes p
  pub blocks_done : (p q : List A → Bool) (f : List A → List A) → ((b : List A) → length b ≡ w → q b ≡ true → (length (f b) ≡ w) × (p (f b) ≡ true))
      → (n : ℕ) (l : List A) → n * w ≤ length l → every_block w q n l ≡ true → every_block w p n (in_each_block w f n l) ≡ true
  unfolding every_block in_each_block
  blocks_done p q f g zero l s e = refl
  blocks_done p q f g (suc n) l s e =
      let long : w ≤ length l = omega (arith, suc-mul n w) in
      let done = g (take w l) (length-take-le w l long) (and_left (q (take w l)) (every_block w q n (drop w l)) e) in
      let rest = in_each_block w f n (drop w l) in
      rw (take_at (f (take w l)) rest w done.0, drop_at (f (take w l)) rest w done.0, done.1)
      (blocks_done p q f g n (drop w l) (simp length-drop (omega (arith, suc-mul n w))) (and_right (q (take w l)) (every_block w q n (drop w l)) e))

  -- what is done in each block is done in the block of number c
  pub in_each_block_lem : (f : List A → List A) → ((b : List A) → length b ≡ w → length (f b) ≡ w)
      → (n : ℕ) (l : List A) → n * w ≤ length l → (c : ℕ) → c < n → block c (in_each_block w f n l) ≡ f (block c l)
  unfolding in_each_block
  in_each_block_lem f g zero l s c h = absurd (omega arith)
  in_each_block_lem f g (suc n) l s c h =
      let long : w ≤ length l = omega (arith, suc-mul n w) in
      same_or c 0
      (λ z. rw z (first_block (f (take w l) ++ in_each_block w f n (drop w l)) ∙ take_at (f (take w l)) (in_each_block w f n (drop w l)) w (g (take w l) (length-take-le w l long))
      ∙ ap f (sym (first_block l))))
      (λ z. let e : c ≡ suc (c - 1) = omega arith in
      rw e (next_block (c - 1) (f (take w l) ++ in_each_block w f n (drop w l))
      ∙ ap (block (c - 1)) (drop_at (f (take w l)) (in_each_block w f n (drop w l)) w (g (take w l) (length-take-le w l long)))
      ∙ in_each_block_lem f g n (drop w l) (simp length-drop (omega (arith, suc-mul n w))) (c - 1) (omega arith) ∙ ap f (sym (next_block (c - 1) l))))

  -- changed block by block, a list is as long as it was
  pub in_each_length : (f : List A → List A) → ((b : List A) → length b ≡ w → length (f b) ≡ w) → (n : ℕ) (l : List A) → n * w ≤ length l → length (in_each_block w f n l) ≡ length l
  unfolding in_each_block
  in_each_length f g zero l s = refl
  in_each_length f g (suc n) l s =
      let long : w ≤ length l = omega (arith, suc-mul n w) in
      let rest = in_each_length f g n (drop w l) (simp length-drop (omega (arith, suc-mul n w))) in
      simp length-append (omega (arith, g (take w l) (length-take-le w l long), rest, length-drop w l))
