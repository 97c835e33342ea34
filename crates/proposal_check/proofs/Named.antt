-- The orders that the legs name, by their places. Assumes nothing.
use mathlib.Core.Path.{◌≡◌, refl, sym, ap, ◌∙◌}
use mathlib.Core.Bool.{Bool, true, false, cond, ◌&&◌}
use mathlib.Core.List.{List, [], ◌∷◌, ◌++◌, map}
use mathlib.Core.Option.{none, some}
use Prim.Native.Nat.{ℕ, suc, ◌+◌, ◌-◌, ◌<◌, ◌≤◌}
use native.Mathlib.Omega.{arith}
use native.Mathlib.Nat.{zero-add, add-zero}
use lib.Dec.{eqb, leb, ltb}
use lib.ListN.{length, get_or, take, drop, length-map}
use lib.Seq.{length-take-le}
use borrow.Author.Tests.{ltb-true, ltb-false, eq-eqb, ne_eqb}
use Rattle.arith.proofs.Alls.{every_all, all_place}
use Rattle.arith.specs.Lists.{every, from}
use Rattle.arith.proofs.Tests.{by_bool, true_or, le_or_lt, and_left, and_right, never}
use Rattle.arith.proofs.Appends.{from_length, map_at, from_at}
use Rattle.arith.proofs.Runs.{run_of}
use Rattle.arith.proofs.Writes.{again_long, again_front, again_many}
use Rattle.arith.proofs.Scans.{from_next, from_end, every_map, map_map}
use Rattle.rules.specs.declared.event.Leg.{Leg}
use Rattle.rules.specs.declared.order.Order.{Order}
use Rattle.rules.specs.Ledger.{Tables, order_at}
use Rattle.rules.specs.Synthetic.{Named, numbered, named_legs, has_lots, price_allowed}
use Rattle.tables.specs.Fit.{BookFit, order_count_in, orders_in}
use Rattle.order_book.proofs.Left.{orders_length}
use Rattle.proposal_check.specs.Legs.{PlacesFit, ContractsFit, no_leg, place_of, places_of, named_to}
use Rattle.proposal_check.proofs.Lists.{map_from}

-- ---- one leg
numbered_found : (n : ℕ) (os : List Order) (z : Order) → place_of n os < length os → numbered n os ≡ some (get_or os (place_of n os) z)
unfolding numbered place_of
numbered_found n [] z h = absurd (omega arith)
numbered_found n (o ∷ os) z h =
    by_bool (λ b. cond b 0 (suc (place_of n os)) < suc (length os) → cond b (some o) (numbered n os) ≡ some (get_or (o ∷ os) (cond b 0 (suc (place_of n os))) z))
    (eqb o.number n) (λ _ _. refl) (λ _ l. numbered_found n os z (omega arith)) h

numbered_none : (n : ℕ) (os : List Order) → length os ≤ place_of n os → numbered n os ≡ none
unfolding numbered place_of
numbered_none n [] h = refl
numbered_none n (o ∷ os) h =
    by_bool (λ b. suc (length os) ≤ cond b 0 (suc (place_of n os)) → cond b (some o) (numbered n os) ≡ none) (eqb o.number n) (λ _ l. absurd (omega arith))
    (λ _ l. numbered_none n os (omega arith)) h

-- The orders looked through from place i on.
module _ (n : ℕ) (b : List ℕ) (count i all : ℕ) (known : i + place_of n (map (order_at b) (from i (count - i))) ≡ all) where
  pub place_here : i < count → (order_at b i).number ≡ n → i ≡ all
  unfolding place_of
  place_here h e = sym (add-zero i) ∙ rw (from_next i count h, eq-eqb (order_at b i).number n e) at known

  pub place_next : i < count → ((order_at b i).number ≡ n → ⊥) → i + 1 + place_of n (map (order_at b) (from (i + 1) (count - (i + 1)))) ≡ all
  unfolding place_of
  place_next h d = omega (arith, rw (from_next i count h, ne_eqb (order_at b i).number n d) at known)

  pub place_end : count ≤ i → i ≤ count → count ≡ all
  unfolding place_of
  place_end h l = omega (arith, rw (from_end i count h) at known)

-- ---- all legs
module _ (os : List Order) (z : Order) where
  -- Whether the leg names a resting order.
  abbrev pub is_found : Leg → Bool
  is_found g = ltb (place_of g.order os) (length os)

  named_here : (g : Leg) (gs : List Leg) → place_of g.order os < length os
      → named_legs os (g ∷ gs) ≡ record { leg = g; order = get_or os (place_of g.order os) z } ∷ named_legs os gs
  unfolding named_legs
  named_here g gs h = rw (numbered_found g.order os z h, named_legs)

  named_next : (g : Leg) (gs : List Leg) → length os ≤ place_of g.order os → named_legs os (g ∷ gs) ≡ named_legs os gs
  unfolding named_legs
  named_next g gs h = rw (numbered_none g.order os h, named_legs)

  pub named_all : (legs : List Leg) → every is_found legs ≡ true → named_legs os legs ≡ map (λ g. record { leg = g; order = get_or os (place_of g.order os) z }) legs
  unfolding named_legs every
  named_all [] e = refl
  named_all (g ∷ gs) e =
      named_here g gs (ltb-true _ _ (and_left (is_found g) (every is_found gs) e))
      ∙ ap (λ ns. record { leg = g; order = get_or os (place_of g.order os) z } ∷ ns) (named_all gs (and_right (is_found g) (every is_found gs) e))

  named_most : (legs : List Leg) → length (named_legs os legs) ≤ length legs
  unfolding named_legs
  named_most [] = omega arith
  named_most (g ∷ gs) =
      le_or_lt (length os) (place_of g.order os) (λ l. rw (named_next g gs l) (omega (arith, named_most gs)))
      (λ l. rw (named_here g gs l) (omega (arith, named_most gs)))

  named_fewer : (legs : List Leg) → every is_found legs ≡ false → length (named_legs os legs) < length legs
  unfolding named_legs every
  named_fewer [] e = never e
  named_fewer (g ∷ gs) e =
      true_or (is_found g)
      (λ t. rw (named_here g gs (ltb-true _ _ t)) (omega (arith, named_fewer gs (rw t at e))))
      (λ t. rw (named_next g gs (ltb-false _ _ t)) (omega (arith, named_most gs)))

  -- A leg that names no resting order.
  pub named_not : (legs : List Leg) → every is_found legs ≡ false → eqb (length (named_legs os legs)) (length legs) ≡ false
  named_not legs e = ne_eqb (length (named_legs os legs)) (length legs) (λ same. omega (arith, named_fewer legs e))

-- ---- where the orders stand
pub order_there : (count : ℕ) (book : List ℕ) (p : ℕ) (z : Order) → p < count → get_or (orders_in count book) p z ≡ order_at book p
order_there count book p z h =
    map_at (order_at book) (from 0 count) p 0 z (omega (arith, from_length 0 count)) ∙ ap (order_at book) (from_at 0 count p 0 h ∙ zero-add p)

-- Where each leg names a resting order, its place is that of an order.
pub found_fit : (count : ℕ) (places : List ℕ) → every (λ p. ltb p count) places ≡ true → PlacesFit count places
found_fit count places e = record { below = λ i h. ltb-true _ count (all_place (λ p. ltb p count ≡ true) 0 places (every_all (λ p. ltb p count) places e) i h) }

pub places_wider : (a b : ℕ) (places : List ℕ) → a ≤ b → PlacesFit a places → PlacesFit b places
places_wider a b places h f = record { below = λ i k. omega (arith, f.below i k) }

pub contracts_fit : (head book places : List ℕ) → BookFit head book → PlacesFit (order_count_in head) places → ContractsFit book places
contracts_fit head book places b f = record { long = b.long; contract_below = λ i h. (b.order_fit (get_or places i 0) (f.below i h)).contract_below }

module _ (count : ℕ) (book : List ℕ) (legs : List Leg) where
  abbrev os : List Order
  os = orders_in count book

  abbrev places_in : List ℕ
  places_in = places_of count book legs

  found_same : every (λ p. ltb p count) places_in ≡ every (is_found os (order_at book 0)) legs
  found_same =
      every_map (λ p. ltb p count) (λ g. place_of g.order os) legs
      ∙ ap (λ n. every (λ g. ltb (place_of g.order os) n) legs) (sym (orders_length book count))

  order_at_lem : (i : ℕ) → every (λ p. ltb p count) places_in ≡ true → i < length legs
      → get_or os (place_of (get_or legs i no_leg).order os) (order_at book 0) ≡ order_at book (get_or places_in i 0)
  order_at_lem i e h =
      let below = (found_fit count places_in e).below i (omega (arith, length-map legs (λ g. place_of g.order os))) in
      rw (← map_at (λ g. place_of g.order os) legs i no_leg 0 h) (order_there count book (get_or places_in i 0) (order_at book 0) below)

  pub named_places : every (λ p. ltb p count) places_in ≡ true → named_legs os legs ≡ named_to book places_in legs
  named_places e =
      let f : Leg → Named = λ g. record { leg = g; order = get_or os (place_of g.order os) (order_at book 0) } in
      named_all os (order_at book 0) legs (sym found_same ∙ e)
      ∙ sym (ap (map f) (run_of (λ i. get_or legs i no_leg) legs no_leg (λ i _. refl)))
      ∙ map_map f (λ i. get_or legs i no_leg) (from 0 (length legs))
      ∙ map_from _ _ 0 (length legs) (λ i l u. ap (λ o. record { leg = get_or legs i no_leg; order = o }) (order_at_lem i e (omega arith)))

  pub not_named : every (λ p. ltb p count) places_in ≡ false → eqb (length (named_legs os legs)) (length legs) ≡ false
  not_named e = named_not os (order_at book 0) legs (sym found_same ∙ e)

-- the places as it is lent: the first places of an array
module _ (count : ℕ) (book : List ℕ) (legs : List Leg) (ys l : List ℕ) (e : ys ≡ places_of count book legs) (room : length legs ≤ length l) where
  as_lent : length ys ≡ length (take (length legs) l)
  as_lent = ap length e ∙ length-map legs (λ g. place_of g.order (orders_in count book)) ∙ sym (length-take-le (length legs) l room)

  pub places_long : length legs ≤ length (ys ++ drop (length legs) l)
  places_long = again_long (length legs) ys l as_lent room

  pub places_as_many : length legs ≡ length (take (length legs) (ys ++ drop (length legs) l))
  places_as_many = again_many (length legs) ys l as_lent room

  pub places_front : take (length legs) (ys ++ drop (length legs) l) ≡ places_of count book legs
  places_front = again_front (length legs) ys l as_lent room ∙ e

-- ---- a leg and its order as the code reads them
pub within_same : (t : Tables) (g : Leg) (o p : Order) (b : Bool) → o ≡ p → b ≡ price_allowed t (record { leg = g; order = o })
    → leb g.lots.0 o.lots.0 && b ≡ has_lots (record { leg = g; order = p }) && price_allowed t (record { leg = g; order = p })
within_same t g o p b f same =
    ap (λ x. leb g.lots.0 o.lots.0 && x) same
    ∙ ap (λ x. leb g.lots.0 x.lots.0 && price_allowed t (record { leg = g; order = x })) f
