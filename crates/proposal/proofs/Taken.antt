-- The orders after the legs have taken their lots. Assumes nothing.
use mathlib.Core.Path.{◌≡◌, refl, sym, ap, ◌∙◌}
use mathlib.Core.Bool.{true, false, not, cond}
use mathlib.Core.List.{List, [], ◌∷◌, ◌++◌, map}
use Prim.Native.Nat.{ℕ, zero, suc, ◌+◌, ◌-◌, ◌<◌, ◌≤◌}
use native.Mathlib.Omega.{arith}
use native.Mathlib.Numerals.{add-one}
use lib.Dec.{eqb, leb}
use lib.ListN.{length, get_or, set, take, drop, length-set, length-map}
use lib.Seq.{length-take-le, take-suc, take_all}
use borrow.Author.Tests.{eqb-true, eqb-false, eq-eqb, ne_eqb, le-leb, lt-leb, not-true}
use Rattle.arith.specs.Lists.{All, any}
use Rattle.arith.proofs.Tests.{by_bool, true_or, same_or, le_or_lt, and_left, and_right, or_left, or_right}
use Rattle.arith.proofs.Writes.{again_long, again_front, again_many}
use Rattle.arith.proofs.Appends.{map_at}
use Rattle.rules.specs.declared.event.Leg.{Leg}
use Rattle.rules.specs.declared.order.Order.{Order}
use Rattle.rules.specs.Ledger.{order_at}
use Rattle.rules.specs.Matching.{with_lots, used}
use Rattle.rules.specs.Refusals.{distinct}
use Rattle.rules.specs.Synthetic.{used_by_legs}
use Rattle.tables.specs.Fit.{orders_in}
use Rattle.order_book.specs.Left.{left_over}
use Rattle.order_book.proofs.Left.{orders_length}
use Rattle.proposal_check.specs.Legs.{PlacesFit, no_leg, place_of, places_of}
use Rattle.proposal.specs.Booking.{left_after, order_lots}
use Rattle.proposal_check.proofs.Named.{order_there}

-- Nothing is taken yet.
pub left_all : (os : List Order) → All (λ o. 1 ≤ o.lots.0) os → left_over (map (λ o. o.lots.0) os) os ≡ os
unfolding left_over
left_all [] h = refl
left_all (o ∷ os) h = rw (ne_eqb o.lots.0 0 (λ e. omega (arith, h.0)), left_all os h.1)

-- ---- one leg takes its lots
used_cons : (n q : ℕ) (o : Order) (os : List Order)
    → used n q (o ∷ os) ≡ cond (eqb o.number n) (cond (leb o.lots.0 q) (used n q os) (with_lots (o.lots.0 - q) o ∷ used n q os)) (o ∷ used n q os)
unfolding used
used_cons n q o os = refl

-- No order has the number.
used_none : (n q : ℕ) (left : List ℕ) (os : List Order) → length left ≡ length os → any (eqb n) (map (λ o. o.number) os) ≡ false → used n q (left_over left os) ≡ left_over left os
unfolding left_over used any
used_none n q [] [] e h = refl
used_none n q [] (o ∷ os) e h = absurd (omega arith)
used_none n q (l ∷ left) [] e h = refl
used_none n q (l ∷ left) (o ∷ os) e h =
    let rest = used_none n q left os (omega arith) (or_right (eqb n o.number) (any (eqb n) (map (λ o. o.number) os)) h) in
    let other = eqb-false n o.number (or_left (eqb n o.number) (any (eqb n) (map (λ o. o.number) os)) h) in
    true_or (eqb l 0) (λ z. rw (z, rest)) (λ z. rw (z, ne_eqb o.number n (λ s. other (sym s)), rest))

-- The order with the number, and the others.
taken_here : (n q l : ℕ) (o : Order) (os : List Order) → eqb o.number n ≡ true → used n q os ≡ os
    → cond (eqb (l - q) 0) os (with_lots (l - q) o ∷ os) ≡ used n q (cond (eqb l 0) os (with_lots l o ∷ os))
taken_here n q l o os s keeps =
    same_or l 0 (λ z. rw (eq-eqb l 0 z, eq-eqb (l - q) 0 (omega arith)) (sym keeps))
    (λ z. rw (ne_eqb l 0 z, used_cons n q (with_lots l o) os, s, keeps)
    (le_or_lt l q (λ h. rw (le-leb l q h, eq-eqb (l - q) 0 (omega arith))) (λ h. rw (lt-leb l q h, ne_eqb (l - q) 0 (λ e. omega arith)))))

taken_next : (n q l : ℕ) (o : Order) (os rest : List Order) → eqb o.number n ≡ false → rest ≡ used n q os
    → cond (eqb l 0) rest (with_lots l o ∷ rest) ≡ used n q (cond (eqb l 0) os (with_lots l o ∷ os))
taken_next n q l o os rest s e = true_or (eqb l 0) (λ z. rw (z, e)) (λ z. rw (z, used_cons n q (with_lots l o) os, s, e))

pub used_left : (n q : ℕ) (left : List ℕ) (os : List Order) → length left ≡ length os → distinct (map (λ o. o.number) os) ≡ true → place_of n os < length os
    → left_over (set left (place_of n os) (get_or left (place_of n os) 0 - q)) os ≡ used n q (left_over left os)
unfolding left_over place_of distinct
used_left n q left [] e d h = absurd (omega arith)
used_left n q [] (o ∷ os) e d h = absurd (omega arith)
used_left n q (l ∷ left) (o ∷ os) e d h =
    let numbers = map (λ o. o.number) os in
    let none = not-true (any (eqb o.number) numbers) (and_left (not (any (eqb o.number) numbers)) (distinct numbers) d) in
    let later = and_right (not (any (eqb o.number) numbers)) (distinct numbers) d in
    by_bool (λ b. eqb o.number n ≡ b → cond b 0 (suc (place_of n os)) < suc (length os)
    → left_over (set (l ∷ left) (cond b 0 (suc (place_of n os))) (get_or (l ∷ left) (cond b 0 (suc (place_of n os))) 0 - q)) (o ∷ os) ≡ used n q (left_over (l ∷ left) (o ∷ os)))
    (eqb o.number n) (λ _ s _. taken_here n q l o (left_over left os) s (used_none n q left os (omega arith) (rw (eqb-true o.number n s) at none)))
    (λ _ s k. taken_next n q l o (left_over left os) _ s (used_left n q left os (omega arith) later (omega arith))) refl h

-- ---- leg after leg
pub used_more : (gs : List Leg) (g : Leg) (os : List Order) → used_by_legs (gs ++ (g ∷ [])) os ≡ used g.order g.lots.0 (used_by_legs gs os)
unfolding used_by_legs
used_more [] g os = refl
used_more (x ∷ gs) g os = used_more gs g (used x.order x.lots.0 os)

-- ---- leg by leg, at the orders' places
pub after_length : (places : List ℕ) (legs : List Leg) (n : ℕ) (left : List ℕ) → length (left_after places legs n left) ≡ length left
unfolding left_after
after_length places legs zero left = refl
after_length places legs (suc n) left = length-set (left_after places legs n left) (get_or places n 0) _ ∙ after_length places legs n left

module _ (count : ℕ) (book : List ℕ) (legs : List Leg) (each : All (λ o. 1 ≤ o.lots.0) (orders_in count book)) (apart : distinct (map (λ o. o.number) (orders_in count book)) ≡ true)
    (places : List ℕ) (at : places ≡ places_of count book legs) (fit : PlacesFit count places) where
  many : length places ≡ length legs
  many = ap length at ∙ length-map legs (λ g. place_of g.order (orders_in count book))

  taken_to : (n : ℕ) → n ≤ length legs
      → left_over (left_after places legs n (order_lots count book)) (orders_in count book) ≡ used_by_legs (take n legs) (orders_in count book)
  unfolding left_after used_by_legs
  taken_to zero h = left_all (orders_in count book) each
  taken_to (suc n) h =
      let os = orders_in count book in
      let g = get_or legs n no_leg in
      let left = left_after places legs n (order_lots count book) in
      let place : get_or places n 0 ≡ place_of g.order os = ap (λ ps. get_or ps n 0) at ∙ map_at (λ x. place_of x.order os) legs n no_leg 0 (omega arith) in
      let long : length left ≡ length os = after_length places legs n (order_lots count book) ∙ length-map os (λ o. o.lots.0) in
      let below = fit.below n (omega (arith, many)) in
      let step : left_over (set left (get_or places n 0) (get_or left (get_or places n 0) 0 - g.lots.0)) os ≡ used g.order g.lots.0 (left_over left os)
      = rw place (used_left g.order g.lots.0 left os long apart (omega (arith, place, below, orders_length book count))) in
      step
      ∙ ap (used g.order g.lots.0) (taken_to n (omega arith))
      ∙ sym (ap (λ gs. used_by_legs gs os) (take-suc legs n no_leg (omega arith)) ∙ used_more (take n legs) g os)

  pub taken_legs : left_over (left_after places legs (length places) (order_lots count book)) (orders_in count book) ≡ used_by_legs legs (orders_in count book)
  taken_legs = rw many (taken_to (length legs) (omega arith)) ∙ ap (λ gs. used_by_legs gs (orders_in count book)) (take_all (length legs) legs (omega arith))

-- ---- the lots of each order
module _ (n : ℕ) (book : List ℕ) where
  pub lots_length : length (order_lots n book) ≡ n
  lots_length = length-map (orders_in n book) (λ o. o.lots.0) ∙ orders_length book n

  pub lots_at_lem : (i : ℕ) → i < n → get_or (order_lots n book) i 0 ≡ (order_at book i).lots.0
  lots_at_lem i h = map_at (λ o. o.lots.0) (orders_in n book) i (order_at book i) 0 (omega (arith, orders_length book n)) ∙ ap (λ o. o.lots.0) (order_there n book i (order_at book i) h)

pub after_next : (places : List ℕ) (legs : List Leg) (n : ℕ) (left now : List ℕ) (r : ℕ) → now ≡ left_after places legs n left → r ≡ get_or now (get_or places n 0) 0 - (get_or legs n no_leg).lots.0
    → set now (get_or places n 0) r ≡ left_after places legs (n + 1) left
unfolding left_after
after_next places legs n left now r e f = rw (f, e, add-one n)

-- the column as it is lent: the first n places of an array
module _ (places : List ℕ) (legs : List Leg) (k n : ℕ) (ys l book : List ℕ) (fits : n ≤ length l) (e : ys ≡ left_after places legs k (order_lots (length (take n l)) book)) where
  as_lent : length ys ≡ length (take n l)
  as_lent = ap length e ∙ after_length places legs k (order_lots (length (take n l)) book) ∙ lots_length (length (take n l)) book

  pub left_long : n ≤ length (ys ++ drop n l)
  left_long = again_long n ys l as_lent fits

  pub left_many : n ≡ length (take n (ys ++ drop n l))
  left_many = again_many n ys l as_lent fits

  pub left_front : take n (ys ++ drop n l) ≡ left_after places legs k (order_lots n book)
  left_front = again_front n ys l as_lent fits ∙ e ∙ ap (λ m. left_after places legs k (order_lots m book)) (length-take-le n l fits)
