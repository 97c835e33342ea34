-- The conditions of a proposal over its legs and the places of their orders. Assumes nothing.
use mathlib.Core.Path.{◌≡◌, refl, sym, ap, subst, ◌∙◌}
use mathlib.Core.Bool.{Bool, true, false, not, cond, ◌&&◌, ◌||◌}
use mathlib.Core.List.{List, [], ◌∷◌, map}
use Prim.Native.Nat.{ℕ, zero, suc, ◌+◌, ◌*◌, ◌<◌, ◌≤◌}
use native.Mathlib.Omega.{arith}
use lib.Dec.{eqb, ltb}
use lib.ListN.{length, get_or, length-map}
use borrow.Author.Tests.{eq-eqb}
use Rattle.arith.specs.Lists.{every, any, from, all_of}
use Rattle.arith.proofs.Alls.{any_is_any}
use Rattle.arith.proofs.Tests.{and_false, and_true}
use Rattle.arith.proofs.Runs.{length_run, run_of}
use Rattle.arith.proofs.Scans.{every_both, every_same}
use Rattle.arith.proofs.Totals.{total_same}
use Rattle.rules.specs.declared.event.Leg.{Leg}
use Rattle.rules.specs.declared.order.Order.{Order}
use Rattle.rules.specs.declared.order.Side.{Side}
use Rattle.rules.specs.declared.order.Side.TheVariants.{Buy, Sell}
use Rattle.rules.specs.Ranges.{months_in_span, most_orders}
use Rattle.rules.specs.Days.{Calendar, first_month, month_start}
use Rattle.rules.specs.Header.{rising}
use Rattle.rules.specs.OtherForms.{holds_month}
use Rattle.rules.specs.Ledger.{Tables, order_at, orders, calendar}
use Rattle.rules.specs.Sides.{same_side}
use Rattle.rules.specs.Synthetic.{Named, named_legs, has_lots, price_allowed, two_occur, in_hour, leg_lots, leg_value, balanced_in_hour, balanced, in_full, priority_kept, acceptable}
use Rattle.tables.specs.Fit.{HeadFit, BookFit, order_count_in, orders_in}
use Rattle.proposal_check.specs.Legs.{LegsFit, PlacesFit, ContractsFit, no_leg, number_of, lots_of, value_of, place_of, places_of}
use Rattle.proposal_check.specs.Legs.{named_at, named_to, counts_at, in_month, balanced_months, is_before, is_ahead, is_full_leg}
use Rattle.proposal_check.proofs.Lists.{map_places, any_map, total_map, every_same_from}
use Rattle.proposal_check.proofs.Named.{named_places, not_named, found_fit, places_wider, contracts_fit}
use Rattle.proposal_check.proofs.Together.{two_first, hour_month, before, priority_orders}

two_mapped : (f : Named → ℕ) (h : ℕ → Named) (n : ℕ) → 1 ≤ n → two_occur f (map h (from 0 n)) ≡ any (λ x. not (eqb (f x) (f (h 0)))) (map h (from 0 n))
unfolding from
two_mapped f h zero l = absurd (omega arith)
two_mapped f h (suc n) l = two_first f (h 0) (map h (from 1 n))

module _ (book places : List ℕ) (legs : List Leg) (fit : LegsFit legs) (as_many : length places ≡ length legs) where
  abbrev named : ℕ → Named
  named = named_at book places legs

  abbrev ns : List Named
  ns = named_to book places legs

  -- A test of the places is a test of the legs.
  any_places : (p : ℕ → Bool) → any p places ≡ any (λ i. p (get_or places i 0)) (from 0 (length legs))
  any_places p = ap (any p) (sym (map_places places)) ∙ any_map p (λ i. get_or places i 0) (from 0 (length places)) ∙ ap (λ n. any (λ i. p (get_or places i 0)) (from 0 n)) as_many

  -- ---- at least two members, two contracts
  pub two_legs : (f : Order → ℕ) → any (λ p. not (eqb (f (order_at book p)) (f (order_at book (get_or places 0 0))))) places ≡ two_occur (λ n. f n.order) ns
  two_legs f =
      any_places (λ p. not (eqb (f (order_at book p)) (f (order_at book (get_or places 0 0)))))
      ∙ sym (two_mapped (λ n. f n.order) named (length legs) (omega (arith, fit.least_legs_holds))
      ∙ any_map (λ x. not (eqb (f x.order) (f (named 0).order))) named (from 0 (length legs)))

  -- ---- balance
  module _ (k : Calendar) (f : Named → ℕ) (amount : Leg → ℕ) (same : (n : Named) → amount n.leg ≡ f n) where
    month_columns : (s : Side) (m : ℕ) → m < months_in_span → in_hour k f s (24 * month_start (first_month k + m)) ns ≡ in_month book places amount legs s m
    unfolding in_month
    month_columns s m l =
        hour_month k f s m ns l
        ∙ total_map (λ n. cond (same_side n.order.side s && holds_month n.order.contract m) (f n) 0) named (from 0 (length legs))
        ∙ total_same _ (λ i. cond (counts_at book s m (get_or places i 0)) (amount (get_or legs i no_leg)) 0) 0 (length legs)
        (λ i l u. ap (λ x. cond (counts_at book s m (get_or places i 0)) x 0) (sym (same (named i))))

    pub months_balanced : every (λ m. eqb (in_hour k f Buy (24 * month_start (first_month k + m)) ns) (in_hour k f Sell (24 * month_start (first_month k + m)) ns)) (from 0 months_in_span)
        ≡ balanced_months book places amount legs
    unfolding balanced_months
    months_balanced =
        every_same_from (λ m. eqb (in_hour k f Buy (24 * month_start (first_month k + m)) ns) (in_hour k f Sell (24 * month_start (first_month k + m)) ns))
        (λ m. eqb (in_month book places amount legs Buy m) (in_month book places amount legs Sell m)) 0 months_in_span (λ m l. rw (month_columns Buy m l, month_columns Sell m l))

  pub balanced_legs : (k : Calendar) → balanced_months book places lots_of legs && balanced_months book places value_of legs ≡ balanced k ns
  unfolding balanced balanced_in_hour
  balanced_legs k =
      rw (← months_balanced k leg_lots lots_of (λ n. refl), ← months_balanced k leg_value value_of (λ n. refl))
      (sym (every_both _ _ (from 0 months_in_span)))

  -- ---- priority
  ahead : (o : Order) → is_ahead book places o ≡ any (before o) ns
  unfolding is_ahead
  ahead o = any_places (λ p. is_before o (order_at book p)) ∙ sym (any_map (before o) named (from 0 (length legs)))

  full : (o : Order) → is_full_leg legs o ≡ in_full ns o
  unfolding in_full
  full o =
      let p : Leg → Bool = λ g. eqb g.order o.number && eqb g.lots.0 o.lots.0 in
      any_is_any p legs ∙ ap (any p) (sym (run_of (λ i. get_or legs i no_leg) legs no_leg (λ i _. refl)))
      ∙ any_map p (λ i. get_or legs i no_leg) (from 0 (length legs))
      ∙ sym (any_map (λ n. p n.leg) named (from 0 (length legs)))

  pub priority_legs : (os : List Order) → every (λ o. not (is_ahead book places o) || is_full_leg legs o) os ≡ every (priority_kept os ns) ns
  priority_legs os =
      every_same (λ o. not (is_ahead book places o) || is_full_leg legs o) (λ o. not (any (before o) ns) || in_full ns o) (λ o. rw (ahead o, full o)) os
      ∙ sym (priority_orders os ns)

-- ---- all of them
all_eight : (a m c h p b k : Bool) → (((((a && m) && c) && (h && p)) && b) && k) ≡ all_of (a ∷ true ∷ h ∷ m ∷ c ∷ p ∷ b ∷ k ∷ [])
unfolding all_of
all_eight false m c h p b k = refl
all_eight true false c h p b k = sym (and_false h)
all_eight true true false h p b k = sym (and_false h)
all_eight true true true false p b k = refl
all_eight true true true true false b k = refl
all_eight true true true true true false k = refl
all_eight true true true true true true k = sym (and_true k)

second_fails : (a h m c p b k : Bool) → all_of (a ∷ false ∷ h ∷ m ∷ c ∷ p ∷ b ∷ k ∷ []) ≡ false
unfolding all_of
second_fails a h m c p b k = and_false a

module _ (t : Tables) (count : ℕ) (book places : List ℕ) (legs : List Leg) (same : orders t ≡ orders_in count book) (at : places ≡ places_of count book legs) where
  -- Where a leg names no resting order the proposal is not acceptable.
  pub acceptable_not : every (λ p. ltb p count) places ≡ false → acceptable t legs ≡ false
  unfolding acceptable
  acceptable_not e =
      rw (same, not_named count book legs (ap (every (λ p. ltb p count)) (sym at) ∙ e)) (second_fails _ _ _ _ _ _ _)

  pub places_many : length places ≡ length legs
  places_many = ap length at ∙ length-map legs (λ g. place_of g.order (orders_in count book))

  module _ (found : every (λ p. ltb p count) places ≡ true) where
    pub places_named : named_legs (orders_in count book) legs ≡ named_to book places legs
    places_named =
        subst (λ ps. every (λ p. ltb p count) ps ≡ true → named_legs (orders_in count book) legs ≡ named_to book ps legs) (sym at)
        (named_places count book legs) found

    all_named : length (named_to book places legs) ≡ length legs
    all_named = length_run (named_at book places legs) (length legs)

    -- Where each leg names an order, a proposal is acceptable exactly if the other tests pass.
    pub acceptable_found : (member contract within months kept : Bool) → member ≡ two_occur (λ n. n.order.member) (named_to book places legs)
        → contract ≡ two_occur (λ n. n.order.contract) (named_to book places legs)
        → within ≡ every (λ n. has_lots n && price_allowed t n) (named_to book places legs)
        → months ≡ balanced (calendar t) (named_to book places legs)
        → kept ≡ every (priority_kept (orders_in count book) (named_to book places legs)) (named_to book places legs)
        → ((((rising (map number_of legs) && member) && contract) && within) && months) && kept ≡ acceptable t legs
    unfolding acceptable
    acceptable_found member contract within months kept m c w b k =
        let ns = named_to book places legs in
        rw (same, places_named, eq-eqb _ _ all_named, m, c, w, b, k, every_both has_lots (price_allowed t) ns)
        (all_eight (rising (map number_of legs)) _ _ (every has_lots ns) (every (price_allowed t) ns) _ _)

-- What the tests may count on once each leg names a resting order.
pub record Found (count : ℕ) (book places : List ℕ) (legs : List Leg) : Type 0 where
  pub there : PlacesFit count places
  pub in_book : PlacesFit most_orders places
  pub contracts : ContractsFit book places
  pub as_many : length places ≡ length legs

pub legs_found : (head book places : List ℕ) (legs : List Leg) → HeadFit head → BookFit head book
    → places ≡ places_of (order_count_in head) book legs → every (λ p. ltb p (order_count_in head)) places ≡ true → Found (order_count_in head) book places legs
legs_found head book places legs h b at found =
    let there = found_fit (order_count_in head) places found in
    let many = ap length at ∙ length-map legs (λ g. place_of g.order (orders_in (order_count_in head) book)) in
    record {
      there = there;
      in_book = places_wider (order_count_in head) most_orders places h.most_orders_holds there;
      contracts = contracts_fit head book places b there;
      as_many = many;
    }
