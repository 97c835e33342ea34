-- A submit: its deals' lines come in pairs, and its orders rest in open contracts.
use mathlib.Core.Path.{◌≡◌, refl, sym, ap, subst, ◌∙◌}
use mathlib.Core.Bool.{Bool, true, false, cond}
use mathlib.Core.List.{List, [], ◌∷◌, ◌++◌, flat_map}
use Prim.Native.Nat.{ℕ, ◌+◌, ◌<◌}
use native.Mathlib.Omega.{arith}
use lib.Dec.{ltb}
use lib.ListN.{length, set}
use lib.IntN.{ℤ, pos, ◌+ℤ◌, ◌*ℤ◌, +ℤ_invr, +ℤ_invl, zero-*ℤ}
use Rattle.arith.specs.Ints.{when}
use Rattle.arith.specs.Lists.{All}
use Rattle.arith.proofs.Alls.{all_always, all_map, all_append}
use Rattle.arith.proofs.Tests.{by_bool, and_false}
use Rattle.arith.proofs.Sums.{sorted, *ℤ_distrib}
use Rattle.rules.specs.Ledger.{submits_from}
use Rattle.rules.specs.Ranges.{contract_count}
use Rattle.rules.specs.declared.event.Submission.{Submission}
use Rattle.rules.specs.declared.order.Order.{Order}
use Rattle.rules.specs.declared.order.Side.{Side}
use Rattle.rules.specs.declared.order.Side.TheVariants.{Buy, Sell}
use Rattle.rules.specs.Days.{Calendar}
use Rattle.rules.specs.ContractTerms.{has_term, is_parent, holds_hour, term_of, term_closing_day, still_to_close, open_on, has_cascaded}
use Rattle.rules.proofs.CalendarLaws.{before_or_not, open_to_close}
use Rattle.rules.specs.Header.{Header, calendar_of}
use Rattle.rules.specs.Ledger.{time_place, accepted_submits_place, order_count_place, Tables, Line, members, day, is_open, time, accepted_submits, submits_this_second, with_head, orders, with_orders, without_submits, timed}
use Rattle.rules.specs.Sides.{signed, other_side}
use Rattle.rules.specs.Matching.{opposes, with_lots, Deal, matching, matched, deal_lines, incoming, submit_matched, submit_lines, would_rest, submit_orders, with_deals, counted, submit_booked}
use Rattle.rules.specs.Accounts.{Column, lots, value, amount}
use Rattle.accounts.proofs.Lines.{Fits, hour_total}
use Rattle.accounts.proofs.Heads.{SameHeader, changing, of_member, then_same, set_other}
use Rattle.accounts.proofs.Holds.{Fair}
use Rattle.accounts.proofs.Runs.{InOpen, Runs, Sound, runs_calendar, timed_same}
use Rattle.accounts.proofs.Calls.{Does, booked_does}
use Rattle.accounts.proofs.Written.{orders_written}
use Rattle.accounts.proofs.Matches.{best_all, used_all, by_deals}

-- ---- the lines of a deal cancel
sides_cancel : (s : Side) (q : ℕ) → signed s q +ℤ signed (other_side s) q ≡ pos 0
sides_cancel Buy q = +ℤ_invr (pos q)
sides_cancel Sell q = +ℤ_invl (pos q)

pair_cancels : (x : Column) (o : Order) (d : Deal) → amount x (record { member = o.member; contract = o.contract; lots = signed o.side d.lots; price = d.resting.price.0 })
    +ℤ amount x (record { member = d.resting.member; contract = o.contract; lots = signed (other_side o.side) d.lots; price = d.resting.price.0 }) ≡ pos 0
pair_cancels lots o d = sides_cancel o.side d.lots
pair_cancels value o d =
    sym (*ℤ_distrib (signed o.side d.lots) (signed (other_side o.side) d.lots) (pos d.resting.price.0))
    ∙ ap (λ z. z *ℤ pos d.resting.price.0) (sides_cancel o.side d.lots) ∙ zero-*ℤ (pos d.resting.price.0)

both_when : (b : Bool) (v w r : ℤ) → v +ℤ w ≡ pos 0 → r ≡ pos 0 → when b v +ℤ (when b w +ℤ r) ≡ pos 0
both_when true v w r e f = rw f (simp sorted e)
both_when false v w r e f = rw f

deals_balanced : (k : Calendar) (x : Column) (h : ℕ) (o : Order) (ds : List Deal) → hour_total k (amount x) h (flat_map (deal_lines o) ds) ≡ pos 0
unfolding hour_total flat_map
deals_balanced k x h o [] = refl
deals_balanced k x h o (d ∷ ds) = both_when (holds_hour k o.contract h) _ _ _ (pair_cancels x o d) (deals_balanced k x h o ds)

pub deals_each : (P : Line → Type 0) (o : Order) (ds : List Deal) → All (λ d. All P (deal_lines o d)) ds → All P (flat_map (deal_lines o) ds)
unfolding flat_map
deals_each P o [] h = tt
deals_each P o (d ∷ ds) h = (h.0.0, (h.0.1.0, deals_each P o ds h.1))

-- ---- the orders of the deals, and those that rest
-- a fact that a change of an order's lots leaves
module _ (P : Order → Type 0) (keep : (o : Order) (q : ℕ) → P o → P (with_lots q o)) where
  resting_all : (n : ℕ) (o : Order) (os : List Order) → All P os → All P (matching n o os).resting
  resting_all = by_deals (λ o os m. All P os → All P m.resting) (λ o os a. a)
      (λ o r os m e l ih a. ih (used_all P r.number _ os a (λ b p _. keep b _ p)))

  pub dealt_all : (n : ℕ) (o : Order) (os : List Order) → All P os → All (λ d. P d.resting) (matching n o os).deals
  dealt_all = by_deals (λ o os m. All P os → All (λ d. P d.resting) m.deals) (λ o os a. tt)
      (λ o r os m e l ih a.
      (best_all P (opposes o) os (all_map P (λ b. opposes o b ≡ true → P b) os (λ b p _. p) a) r e, ih (used_all P r.number _ os a (λ b p _. keep b _ p))))

-- ---- what needs the tables alone
pub timed_rows : (n : ℕ) (t : Tables) → ((timed n t).lots ≡ t.lots) × ((timed n t).value ≡ t.value) × ((timed n t).book ≡ t.book)
unfolding timed
timed_rows n t =
    by_bool (λ b. let u = cond b (with_head (set (without_submits t).head time_place n) t) t in (u.lots ≡ t.lots) × (u.value ≡ t.value) × (u.book ≡ t.book)) (ltb (time t) n)
    (λ _. (refl, refl, refl)) (λ _. (refl, refl, refl))

-- a submit's lines fit the tables
pub submit_fits : (t : Tables) → Sound t → (e : Submission) → e.contract < contract_count → e.member < members t → All (Fits (members t)) (submit_lines t e)
unfolding submit_lines submit_matched matched
submit_fits t s e contract< member< =
    let o = incoming t e in
    let ds = (matching (length (orders t)) o (orders t)).deals in
    let placed = dealt_all (λ b. b.member < members t) (λ b q p. p) (length (orders t)) o (orders t)
    (all_map (λ b. (b.contract < contract_count) × (b.member < members t)) (λ b. b.member < members t) (orders t) (λ b p. p.1) s.placed) in
    deals_each (Fits (members t)) o ds (all_map (λ x. x.resting.member < members t) _ ds
    (λ x p. (record { contract< = contract<; member< = member< }, (record { contract< = contract<; member< = p }, tt))) placed)

-- ---- what is open is not cascaded
pub open_here : (h : Header) (d : ℕ) (t : Tables) (c : ℕ) → Runs h d t → is_open t c ≡ open_on (calendar_of h) d c
unfolding is_open
open_here h d t c r = ap (λ k. open_on k (day t) c) (runs_calendar r) ∙ ap (λ x. open_on (calendar_of h) x c) r.today

pub open_not_cascaded : (k : Calendar) (d c : ℕ) → open_on k d c ≡ true → has_cascaded k d c ≡ false
unfolding has_cascaded still_to_close
open_not_cascaded k d c e = rw (before_or_not d (term_closing_day k (term_of c)), open_to_close k d c e, and_false (has_term c)) (and_false (is_parent c))

-- ---- a submit
module _ (h : Header) (d : ℕ) (t : Tables) (r : Runs h d t) (s : Sound t) where
  -- an accepted record's time
  pub timed_header : (n : ℕ) → SameHeader time_place t.head (timed n t).head
  timed_header n = timed_same n t s

  module _ (e : Submission) (opened : is_open t e.contract ≡ true) (contract< : e.contract < contract_count) (member< : e.member < members t) where
    here : open_on (calendar_of h) d e.contract ≡ true
    here = sym (open_here h d t e.contract r) ∙ opened

    pub submit_fair : Fair h (has_cascaded (calendar_of h) d) (submit_lines t e)
    unfolding submit_lines submit_matched matched
    submit_fair =
        let o = incoming t e in
        let ds = (matching (length (orders t)) o (orders t)).deals in
        record {
          fits = subst (λ n. All (Fits n) (submit_lines t e)) r.size (submit_fits t s e contract< member<);
          balanced = λ x hour _. deals_balanced (calendar_of h) x hour o ds;
          clear = let c = open_not_cascaded (calendar_of h) d e.contract here in deals_each (λ l. has_cascaded (calendar_of h) d l.contract ≡ false) o ds (all_always _ ds (λ x. (c, (c, tt))));
        }

    submit_rests : All (InOpen h d) (submit_orders t e)
    unfolding submit_orders submit_matched matched
    submit_rests =
        let o = incoming t e in
        let m = matching (length (orders t)) o (orders t) in
        let rest = resting_all (InOpen h d) (λ b q p. p) (length (orders t)) o (orders t) r.resting in
        by_bool (λ b. All (InOpen h d) (cond b (m.resting ++ (with_lots m.left o ∷ [])) m.resting)) (would_rest t e)
        (λ _. all_append (InOpen h d) m.resting (with_lots m.left o ∷ []) rest (here, tt)) (λ _. rest)

    pub submit_does : Does h d d t (submit_booked t e)
    unfolding submit_booked with_orders with_deals counted
    submit_does =
        let u = timed e.time t in
        let v = with_deals e.contract (submit_matched t e).deals (counted e.member u) in
        let a = then_same (timed_header e.time) (then_same (set_other time_place u.head (submits_from + e.member) (submits_this_second u e.member + 1) (omega arith) (of_member (omega arith)))
        (set_other time_place (set u.head (submits_from + e.member) (submits_this_second u e.member + 1)) accepted_submits_place (accepted_submits u + 1) (omega arith) (changing (omega arith) (omega arith)))) in
        booked_does h d (submit_lines t e) t (with_orders (submit_orders t e) v) r s
        (then_same a (set_other time_place v.head order_count_place (length (submit_orders t e)) (omega arith) (changing (omega arith) (omega arith))))
        (rw (orders_written (submit_orders t e) v (omega (arith, a.longer, s.head_long))) submit_rests)
        (timed_rows e.time t).0 (timed_rows e.time t).1 submit_fair
