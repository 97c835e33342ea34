-- A synthetic proposal: its legs' lines balance in every hour, not in every contract.
use mathlib.Core.Path.{◌≡◌, refl, sym, ap, subst, ◌∙◌}
use mathlib.Core.Bool.{Bool, true, false, cond, ◌&&◌}
use mathlib.Core.List.{List, [], ◌∷◌, map}
use mathlib.Core.Option.{Option, none, some}
use Prim.Native.Nat.{ℕ, zero, suc, ◌+◌, ◌*◌, ◌<◌}
use native.Mathlib.Omega.{arith}
use native.Mathlib.Nat.{zero-mul, zero-add}
use lib.Dec.{eqb}
use lib.ListN.{length}
use lib.IntN.{ℤ, pos, neg_ℤ, ◌+ℤ◌, ◌*ℤ◌, +ℤ_assoc, +ℤ_idl, +ℤ_invr, neg_ℤ-+ℤ}
use borrow.Author.Tests.{eqb-true}
use Rattle.arith.specs.Ints.{when}
use Rattle.arith.specs.Lists.{All, kept, total}
use Rattle.arith.proofs.Alls.{all_hold, all_map}
use Rattle.arith.proofs.Tests.{by_bool, and_left, and_right, passed, passes}
use Rattle.arith.proofs.Sums.{sorted}
use Rattle.rules.specs.Ranges.{contract_count}
use Rattle.rules.specs.declared.event.Leg.{Leg}
use Rattle.rules.specs.declared.order.Order.{Order}
use Rattle.rules.specs.declared.order.Side.{Side}
use Rattle.rules.specs.declared.order.Side.TheVariants.{Buy, Sell}
use Rattle.rules.specs.Days.{Calendar}
use Rattle.rules.specs.ContractTerms.{holds_hour, has_cascaded}
use Rattle.rules.specs.Header.{Header, calendar_of}
use Rattle.rules.specs.Ledger.{Tables, members, orders, with_orders, time_place, order_count_place}
use Rattle.rules.specs.Sides.{same_side, signed}
use Rattle.rules.specs.Matching.{with_lots, used}
use Rattle.rules.specs.Synthetic.{numbered, Named, named_legs, leg_lots, leg_value, in_hour, balanced_in_hour, balanced, acceptable, leg_line, proposal_lines, used_by_legs, proposal_booked}
use Rattle.rules.proofs.HourLaws.{balanced_every_hour}
use Rattle.rules.specs.Accounts.{Column, lots, value, amount}
use Rattle.accounts.proofs.Lines.{Fits, hour_total}
use Rattle.accounts.proofs.Heads.{changing, set_other}
use Rattle.accounts.proofs.Holds.{Fair}
use Rattle.accounts.proofs.Runs.{InOpen, Runs, Sound, runs_calendar}
use Rattle.accounts.proofs.Written.{orders_written}
use Rattle.accounts.proofs.Calls.{Does, booked_does}
use Rattle.accounts.proofs.Matches.{used_all}
use Rattle.accounts.proofs.Submits.{open_not_cascaded}

-- ---- the legs' orders are resting orders
module _ (P : Order → Type 0) where
  numbered_all : (n : ℕ) (os : List Order) (o : Order) → All P os → numbered n os ≡ some o → P o
  unfolding numbered
  numbered_all n [] o h e = absurd (let z : ◌≡◌ {A = ℕ} 0 1 = cc in omega arith)
  numbered_all n (x ∷ os) o h e =
      by_bool (λ b. cond b (some x) (numbered n os) ≡ some o → P o) (eqb x.number n)
      (λ _ f. let same : x ≡ o = cc in rw same at h.0) (λ _ f. numbered_all n os o h.1 f) e

  pub named_all : (os : List Order) (gs : List Leg) → All P os → All (λ n. P n.order) (named_legs os gs)
  unfolding named_legs
  named_all os [] h = tt
  named_all os (g ∷ gs) h = go (numbered g.order os) refl (named_all os gs h)
    where
      go : (b : Option Order) → numbered g.order os ≡ b → All (λ n. P n.order) (named_legs os gs) → All (λ n. P n.order) (named_legs os (g ∷ gs))
      go none e ih = rw (e, named_legs) ih
      go (some o) e ih = rw (e, named_legs) (numbered_all g.order os o h e, ih)

  legs_rest : (gs : List Leg) (os : List Order) → ((o : Order) (q : ℕ) → P o → P (with_lots q o)) → All P os → All P (used_by_legs gs os)
  unfolding used_by_legs
  legs_rest [] os f h = h
  legs_rest (g ∷ gs) os f h = legs_rest gs (used g.order g.lots.0 os) f (used_all P g.order g.lots.0 os h (λ o p _. f o _ p))

-- what holds of each leg holds of those that name an order
pub legs_all : (Q : Leg → Type 0) (os : List Order) (gs : List Leg) → All Q gs → All (λ n. Q n.leg) (named_legs os gs)
unfolding named_legs
legs_all Q os [] h = tt
legs_all Q os (g ∷ gs) h = go (numbered g.order os) refl (legs_all Q os gs h.1)
  where
    go : (b : Option Order) → numbered g.order os ≡ b → All (λ n. Q n.leg) (named_legs os gs) → All (λ n. Q n.leg) (named_legs os (g ∷ gs))
    go none e ih = rw (e, named_legs) ih
    go (some o) e ih = rw (e, named_legs) (h.0, ih)

pub mapped_all : {A B : Type 0} (P : B → Type 0) (f : A → B) (l : List A) → All (λ a. P (f a)) l → All P (map f l)
mapped_all P f [] h = tt
mapped_all P f (x ∷ l) h = (h.0, mapped_all P f l h.1)

-- ---- in an hour the lines add up to what is bought less what is sold
-- what a leg counts in a column
leg_amount : Column → Named → ℕ
leg_amount lots n = leg_lots n
leg_amount value n = leg_value n

sold_times : (q p : ℕ) → neg_ℤ (pos q) *ℤ pos p ≡ neg_ℤ (pos (q * p))
sold_times zero p = rw (zero-mul p)
sold_times (suc q) p = refl

leg_amount_lem : (x : Column) (n : Named) → amount x (leg_line n) ≡ signed n.order.side (leg_amount x n)
unfolding leg_amount
leg_amount_lem lots n = refl
leg_amount_lem value n = go n.order.side
  where
    go : (s : Side) → signed s n.leg.lots.0 *ℤ pos n.leg.price.0 ≡ signed s (n.leg.lots.0 * n.leg.price.0)
    go Buy = refl
    go Sell = sold_times n.leg.lots.0 n.leg.price.0

hour_step : (k : Calendar) (f : Named → ℕ) (s : Side) (h : ℕ) (n : Named) (ns : List Named)
    → in_hour k f s h (n ∷ ns) ≡ cond (same_side n.order.side s && holds_hour k n.order.contract h) (f n) 0 + in_hour k f s h ns
unfolding in_hour kept total
hour_step k f s h n ns =
    let p : Named → Bool = λ x. same_side x.order.side s && holds_hour k x.order.contract h in
    by_bool (λ b. total f (cond b (n ∷ kept p ns) (kept p ns)) ≡ cond b (f n) 0 + total f (kept p ns)) (p n) (λ _. refl) (λ _. omega arith)

abbrev difference : Calendar → (Named → ℕ) → ℕ → List Named → ℤ
difference k f h ns = pos (in_hour k f Buy h ns) +ℤ neg_ℤ (pos (in_hour k f Sell h ns))

add_bought : (q b s : ℕ) → pos q +ℤ (pos b +ℤ neg_ℤ (pos s)) ≡ pos (q + b) +ℤ neg_ℤ (pos s)
add_bought q b s = sym (+ℤ_assoc (pos q) (pos b) (neg_ℤ (pos s)))

add_sold : (q b s : ℕ) → neg_ℤ (pos q) +ℤ (pos b +ℤ neg_ℤ (pos s)) ≡ pos b +ℤ neg_ℤ (pos (q + s))
add_sold q b s = simp sorted (ap (λ z. pos b +ℤ z) (sym (neg_ℤ-+ℤ (pos q) (pos s))))

one_leg : (side : Side) (holds : Bool) (q b s : ℕ)
    → when holds (signed side q) +ℤ (pos b +ℤ neg_ℤ (pos s)) ≡ pos (cond (same_side side Buy && holds) q 0 + b) +ℤ neg_ℤ (pos (cond (same_side side Sell && holds) q 0 + s))
one_leg Buy true q b s = rw (zero-add s) (add_bought q b s)
one_leg Buy false q b s = rw (zero-add b, zero-add s) (+ℤ_idl (pos b +ℤ neg_ℤ (pos s)))
one_leg Sell true q b s = rw (zero-add b) (add_sold q b s)
one_leg Sell false q b s = rw (zero-add b, zero-add s) (+ℤ_idl (pos b +ℤ neg_ℤ (pos s)))

no_legs : (k : Calendar) (f : Named → ℕ) (h : ℕ) → difference k f h [] ≡ pos 0
unfolding in_hour kept total
no_legs k f h = refl

legs_difference : (k : Calendar) (x : Column) (h : ℕ) (ns : List Named) → hour_total k (amount x) h (map leg_line ns) ≡ difference k (leg_amount x) h ns
unfolding hour_total
legs_difference k x h [] = sym (no_legs k (leg_amount x) h)
legs_difference k x h (n ∷ ns) =
    rw (legs_difference k x h ns, leg_amount_lem x n, hour_step k (leg_amount x) Buy h n ns, hour_step k (leg_amount x) Sell h n ns)
    (one_leg n.order.side (holds_hour k n.order.contract h) (leg_amount x n) (in_hour k (leg_amount x) Buy h ns) (in_hour k (leg_amount x) Sell h ns))

-- legs that balance in an hour add up to nothing in it
hour_nothing : (k : Calendar) (x : Column) (h : ℕ) (ns : List Named) → balanced_in_hour k ns h ≡ true → hour_total k (amount x) h (map leg_line ns) ≡ pos 0
unfolding balanced_in_hour leg_amount
hour_nothing k x h ns e =
    let a = eqb (in_hour k leg_lots Buy h ns) (in_hour k leg_lots Sell h ns) in
    let b = eqb (in_hour k leg_value Buy h ns) (in_hour k leg_value Sell h ns) in
    legs_difference k x h ns ∙ go x (eqb-true _ _ (and_left a b e)) (eqb-true _ _ (and_right a b e))
  where
    go : (x : Column) → in_hour k leg_lots Buy h ns ≡ in_hour k leg_lots Sell h ns → in_hour k leg_value Buy h ns ≡ in_hour k leg_value Sell h ns → difference k (leg_amount x) h ns ≡ pos 0
    go lots p q = rw p (+ℤ_invr (pos (in_hour k leg_lots Sell h ns)))
    go value p q = rw q (+ℤ_invr (pos (in_hour k leg_value Sell h ns)))

-- ---- a proposal
-- its lines fit the tables
pub proposal_fits : (t : Tables) → Sound t → (legs : List Leg) → All (Fits (members t)) (proposal_lines t legs)
unfolding proposal_lines
proposal_fits t s legs =
    let ns = named_legs (orders t) legs in
    mapped_all (Fits (members t)) leg_line ns (all_map (λ n. (n.order.contract < contract_count) × (n.order.member < members t)) _ ns
    (λ n p. record { contract< = p.0; member< = p.1 }) (named_all (λ o. (o.contract < contract_count) × (o.member < members t)) (orders t) legs s.placed))

module _ (h : Header) (d : ℕ) (t : Tables) (r : Runs h d t) (s : Sound t) (legs : List Leg) (ok : acceptable t legs ≡ true) where
  pub proposal_fair : Fair h (has_cascaded (calendar_of h) d) (proposal_lines t legs)
  unfolding proposal_lines acceptable
  proposal_fair =
      let ns = named_legs (orders t) legs in
      let fine : balanced (calendar_of h) ns ≡ true = ap (λ k. balanced k ns) (sym (runs_calendar r)) ∙ (all_hold _ ok).1.1.1.1.1.1.0 in
      record {
        fits = subst (λ n. All (Fits n) (proposal_lines t legs)) r.size (proposal_fits t s legs);
        balanced = λ x hour b. hour_nothing (calendar_of h) x hour ns (passed _ (balanced_every_hour (calendar_of h) ns (passes (balanced (calendar_of h) ns) fine) hour b.0 b.1));
        clear = mapped_all (λ l. has_cascaded (calendar_of h) d l.contract ≡ false) leg_line ns (all_map (λ n. InOpen h d n.order) _ ns
            (λ n p. open_not_cascaded (calendar_of h) d n.order.contract p) (named_all (InOpen h d) (orders t) legs r.resting));
      }

  pub proposal_does : Does h d d t (proposal_booked t legs)
  unfolding proposal_booked with_orders
  proposal_does =
      let os = used_by_legs legs (orders t) in
      booked_does h d (proposal_lines t legs) t (with_orders os t) r s (set_other time_place t.head order_count_place (length os) (omega arith) (changing (omega arith) (omega arith)))
      (rw (orders_written os t (omega (arith, s.head_long))) (legs_rest (InOpen h d) legs (orders t) (λ o q p. p) r.resting)) refl refl proposal_fair
