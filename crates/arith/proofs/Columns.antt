-- A list read from its front, and one written from its front, place by place. Assumes nothing.
use Prim.Native.Nat.{ℕ, zero, suc, ◌+◌, ◌-◌, ◌≤◌, ◌<◌}
use mathlib.Core.Path.{◌≡◌, sym, ◌∙◌}
use mathlib.Core.List.{List, [], ◌∷◌, ◌++◌, map, append-nil}
use native.Mathlib.Omega.{arith}
use native.Mathlib.Numerals.{add-one}
use lib.ListN.{length, get_or, set, take, drop, length-map}
use lib.Seq.{take_all, take-suc-set, drop-cons, append_snoc}
use Rattle.arith.specs.Lists.{total, from}
use Rattle.arith.proofs.Appends.{from_length}

-- ---- read
module _ {A : Type 0} (l : List A) (i : ℕ) where
  pub map_next : {B : Type 0} (f : A → B) (z : A) → i < length l → map f (drop i l) ≡ f (get_or l i z) ∷ map f (drop (i + 1) l)
  map_next f z h = rw (add-one, drop-cons l i z h)

  pub total_next : (f : A → ℕ) (z : A) → i < length l → total f (drop i l) ≡ f (get_or l i z) + total f (drop (i + 1) l)
  unfolding total
  total_next f z h = rw (add-one, drop-cons l i z h)

-- ---- numbers from i up to n
module _ (n i : ℕ) where
  from_more : i < n → from i (n - i) ≡ i ∷ from (i + 1) (n - (i + 1))
  unfolding from
  from_more h = let e : n - i ≡ suc (n - (i + 1)) = omega arith in rw (e, add-one i)

  from_none : n ≤ i → from i (n - i) ≡ []
  unfolding from
  from_none h = let e : n - i ≡ zero = omega arith in rw e

  pub mapped_next : {B : Type 0} (f : ℕ → B) → i < n → map f (from i (n - i)) ≡ f i ∷ map f (from (i + 1) (n - (i + 1)))
  mapped_next f h = rw (from_more h)

  pub mapped_end : {B : Type 0} (f : ℕ → B) → n ≤ i → map f (from i (n - i)) ≡ []
  mapped_end f h = rw (from_none h)

pub mapped_length : {B : Type 0} (f : ℕ → B) (a n : ℕ) → length (map f (from a n)) ≡ n
mapped_length f a n = length-map (from a n) f ∙ from_length a n

-- the mapped list at place i
pub mapped_at : {B : Type 0} (f : ℕ → B) (z : B) (a n i : ℕ) → i < n → get_or (map f (from a n)) i z ≡ f (a + i)
unfolding from
mapped_at f z a zero i h = absurd (omega arith)
mapped_at f z a (suc n) zero h = let e : a + zero ≡ a = omega arith in rw e
mapped_at f z a (suc n) (suc i) h = let e : a + suc i ≡ suc a + i = omega arith in mapped_at f z (suc a) n i (omega arith) ∙ rw e

-- ---- written
module _ {A : Type 0} (out : List A) (i : ℕ) where
  pub written_next : (x : A) (rest whole : List A) → i < length out → take i out ++ x ∷ rest ≡ whole → take (i + 1) (set out i x) ++ rest ≡ whole
  written_next x rest whole h e = rw (add-one, take-suc-set out i x h) (append_snoc (take i out) x rest ∙ e)

  pub written_end : (rest whole : List A) → length out ≤ i → rest ≡ [] → take i out ++ rest ≡ whole → out ≡ whole
  written_end rest whole h z e = sym (take_all i out h) ∙ sym (append-nil (take i out)) ∙ rw z at e
