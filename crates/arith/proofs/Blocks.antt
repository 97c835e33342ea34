-- Things written one after the other and read back by their place. Assumes nothing.
use mathlib.Core.Path.{◌≡◌, refl, sym, ap, subst}
use mathlib.Core.List.{List, [], ◌∷◌, ◌++◌, map, flat_map, append_assoc}
use Prim.Native.Nat.{ℕ, zero, suc}
use lib.ListN.{length}
use Rattle.arith.specs.Lists.{from}

pub map_from_suc : {B : Type 0} (f : ℕ → B) (a n : ℕ) → map f (from (suc a) n) ≡ map (λ i. f (suc i)) (from a n)
unfolding from
map_from_suc f a zero = refl
map_from_suc f a (suc n) = ap (λ l. f (suc a) ∷ l) (map_from_suc f (suc a) n)

pub map_same : {A B : Type 0} (f g : A → B) (l : List A) → ((a : A) → f a ≡ g a) → map f l ≡ map g l
map_same f g [] e = refl
map_same f g (x ∷ l) e = rw (e x, map_same f g l e)

-- places writes a thing, and read reads what stands at the ith place of things
module _ {A B : Type 0} (places : B → List A) (read : List A → ℕ → B)
    (here : (b : B) (l : List A) → read (places b ++ l) 0 ≡ b)
    (next : (b : B) (l : List A) (i : ℕ) → read (places b ++ l) (suc i) ≡ read l i) where
  pub read_back : (bs : List B) (l : List A) → map (read (flat_map places bs ++ l)) (from 0 (length bs)) ≡ bs
  unfolding from flat_map
  read_back [] l = refl
  read_back (b ∷ bs) l =
      let whole : flat_map places (b ∷ bs) ++ l ≡ places b ++ (flat_map places bs ++ l) = append_assoc (places b) (flat_map places bs) l in
      subst (λ s. map (read s) (from 0 (length (b ∷ bs))) ≡ b ∷ bs) (sym whole) (rw (
        here b (flat_map places bs ++ l),
        map_from_suc (read (places b ++ (flat_map places bs ++ l))) 0 (length bs),
        map_same (λ i. read (places b ++ (flat_map places bs ++ l)) (suc i)) (read (flat_map places bs ++ l)) (from 0 (length bs)) (next b (flat_map places bs ++ l)),
        read_back bs l,
      ))
