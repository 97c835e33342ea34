-- The close of day is a list of cascades; then the day is the next one.
use mathlib.Core.Path.{◌≡◌, refl, sym, ap, ◌∙◌}
use mathlib.Core.Bool.{Bool, true, false, not, cond, ◌&&◌, ◌||◌, or-true}
use mathlib.Core.List.{List, [], ◌∷◌, ◌++◌, append-nil}
use Prim.Native.Nat.{ℕ, suc, ◌+◌, ◌*◌, ◌/◌, ◌%◌, ◌≤◌, ◌<◌}
use native.Mathlib.Omega.{arith}
use lib.Dec.{T, eqb, leb}
use lib.ListN.{length, get_or, set, replicate, length-replicate}
use lib.Seq.{get_or-set_other, get_or-set_same}
use lib.IntN.{pos, ◌+ℤ◌}
use borrow.Author.Tests.{leb-true, ltb-true, lt-ltb, le-leb, lt-leb, eqb-true, eq-eqb, not-false}
use Rattle.std.specs.Prelude.{Option, Some, None}
use Rattle.arith.specs.Lists.{All, every, any, kept, over, from}
use Rattle.arith.proofs.Alls.{every_all, all_map, all_kept}
use Rattle.arith.proofs.Among.{by_among, every_from}
use Rattle.arith.specs.Ints.{when}
use Rattle.arith.proofs.Overs.{over_outside}
use Rattle.arith.proofs.Tests.{never, by_eqb, le_or_lt, true_or, and_left, and_right, passed}
use Rattle.rules.specs.Ledger.{head_length, row_width, rows_length}
use Rattle.rules.specs.Ranges.{contract_count, term_count, contracts_in_year, last_quarter, first_quarter, january, most_members, quarters_in_year, months_in_quarter}
use Rattle.rules.specs.declared.contract.ContractKind.TheVariants.{Year, Quarter, Month}
use Rattle.rules.specs.declared.order.Order.{Order}
use Rattle.rules.specs.declared.units.DayNo.{DayNo}
use Rattle.rules.specs.Days.{Calendar, next_business_day}
use Rattle.rules.specs.ContractTerms.{has_term, is_parent, term_of, contracts_of, children_of, term_closing_day, closes_on, closes_before, not_before, is_on, is_before, still_to_close, has_cascaded}
use Rattle.rules.specs.OtherForms.{first_month_of}
use Rattle.rules.proofs.CalendarLaws.{next_business, before_or_not, closes_today, closed_by_next, quarter_later_by_number, open_stays, open_in_ledger, open_to_close}
use Rattle.rules.proofs.HourLaws.{Cascading, year, quarter, cascading}
use Rattle.rules.specs.Header.{Header, calendar_of}
use Rattle.rules.specs.Ledger.{members_place, day_place, time_place, order_count_place, submits_from, Tables, Line, with_rows, members, day, calendar, orders, with_orders, without_submits, first_lines}
use Rattle.rules.specs.CloseOfDay.{cascaded, closing_contracts, all_cascaded, is_of_any, with_closed, priced, has_next_day, next_day, on_day, close_booked}
use Rattle.rules.specs.Accounts.{Column, lots, value, row, day_reached}
use Rattle.accounts.proofs.Cascade.{cascade_keeps}
use Rattle.accounts.proofs.Heads.{SameHeader, field, changing, same_header, then_same, set_other, over_other, but_the_day}
use Rattle.accounts.proofs.Holds.{Rows, Holds, holds_same}
use Rattle.rules.proofs.Cascade.{cascaded_month, cascaded_length, cascaded_row}
use Rattle.accounts.proofs.Runs.{InOpen, Runs, Sound, runs_calendar, runs_with, orders_same}
use Rattle.accounts.proofs.Calls.{rows_of, Does}
use Rattle.accounts.proofs.Written.{orders_written}

abbrev child_of : ℕ → ℕ → Bool
child_of c e = any (λ x. eqb x e) (children_of c)

-- ---- one cascade
-- the accounts stay, and the parent's rows are empty; none of its children had been emptied
holds_cascaded : (h : Header) (c : ℕ) (R R' : Rows) (log : List Line) (K : ℕ → Bool) → c < term_count → c % contracts_in_year < january → ((e : ℕ) → child_of c e ≡ true → K e ≡ false)
    → ((x : Column) (e m : ℕ) → m < h.members → R' x e m ≡ cond (eqb c e) (pos 0) (R x e m +ℤ when (child_of c e) (R x c m)))
    → Holds h R log K → Holds h R' log (λ e. eqb c e || K e)
holds_cascaded h c R R' log K w b clear moved a = record {
  same = λ x m hour l d. cascade_keeps (calendar_of h) (R x) (R' x) c m hour w b (λ e _. moved x e m l) d ∙ a.same x m hour l d;
  zero = a.zero;
  empty = λ x e m k l t. moved x e m l ∙ by_eqb (λ q. q || K e ≡ true → cond q (pos 0) (R x e m +ℤ when (child_of c e) (R x c m)) ≡ pos 0) c e (λ _ _. refl)
      (λ _ u. true_or (child_of c e) (λ v. never (sym u ∙ clear e v)) (λ v. rw (v, a.empty x e m k l u))) t;
}

-- fewer contracts to be empty
holds_fewer : (h : Header) (R : Rows) (log : List Line) (K K' : ℕ → Bool) → ((e : ℕ) → e < contract_count → K' e ≡ true → K e ≡ true) → Holds h R log K → Holds h R log K'
holds_fewer h R log K K' f a = record { same = a.same; zero = a.zero; empty = λ x c m l b t. a.empty x c m l b (f c l t) }

-- ---- which contracts have closed by the evening of day d
on_closed : (d : ℕ) (z : Option DayNo) → is_on z d ≡ true → not_before z (suc d) ≡ false
on_closed d (Some x) e = lt-leb (suc d) x.0 (omega (arith, eqb-true x.0 d e))
on_closed d None e = refl

before_closed : (d : ℕ) (z : Option DayNo) → is_before z d ≡ true → not_before z (suc d) ≡ false
before_closed d (Some x) e = lt-leb (suc d) x.0 (omega (arith, ltb-true x.0 d e))
before_closed d None e = refl

module _ (k : Calendar) (d : ℕ) where
  -- only years and quarters that have closed are emptied
  abbrev Closed : (ℕ → Bool) → Type 0
  Closed K = (e : ℕ) → K e ≡ true → (e % contracts_in_year < january) × (still_to_close k (suc d) (term_of e) ≡ false)

  -- what 'has cascaded' says of a contract
  cascaded_parent : (e : ℕ) → has_cascaded k d e ≡ true → (e < term_count) × (leb (e % contracts_in_year) last_quarter ≡ true)
  unfolding has_cascaded
  cascaded_parent e t =
      let parent = and_left (is_parent e) (closes_before k e d) t in
      (ltb-true e term_count (and_left (has_term e) (leb (e % contracts_in_year) last_quarter) parent), and_right (has_term e) (leb (e % contracts_in_year) last_quarter) parent)

  cascaded_closed : (e : ℕ) → has_cascaded k d e ≡ true → is_before (term_closing_day k (term_of e)) d ≡ true
  unfolding has_cascaded
  cascaded_closed e t = and_right (has_term e) (is_before (term_closing_day k (term_of e)) d) (and_right (is_parent e) (closes_before k e d) t)

  closed_before : Closed (has_cascaded k d)
  unfolding still_to_close
  closed_before e t = (omega (arith, leb-true (e % contracts_in_year) last_quarter (cascaded_parent e t).1), before_closed d (term_closing_day k (term_of e)) (cascaded_closed e t))

  -- no child of a contract that closes this evening has closed before
  children_clear : (K : ℕ → Bool) (c : ℕ) → c < term_count → Closed K → is_on (term_closing_day k (term_of c)) d ≡ true → c % contracts_in_year < january → (e : ℕ) → child_of c e ≡ true → K e ≡ false
  children_clear K c w z o b e v = true_or (K e) (λ t. never (absurd (go (cascading c w b) (z e t)))) (λ t. t)
    where
      go : Cascading c → (e % contracts_in_year < january) × (still_to_close k (suc d) (term_of e) ≡ false) → ⊥
      go (year y is) f =
          let today = closes_today k d (term_of c) o in
          by_among (λ q. q ≡ true → ⊥) (c + first_quarter) quarters_in_year e (λ l u _. never (sym (quarter_later_by_number k d c e y (omega arith) (omega arith) today) ∙ f.1)) (λ _ q. never (sym q)) (rw is at v)
      go (quarter p q is) f =
          by_among (λ w. w ≡ true → ⊥) (first_month_of c) months_in_quarter e (λ l u _. let same : e / contracts_in_year ≡ c / contracts_in_year = omega arith in omega (arith, f.0)) (λ _ w. never (sym w)) (rw is at v)

-- ---- all contracts that close this evening
-- the contracts emptied by the end of a list
unfoldable closed_by : List ℕ → (ℕ → Bool) → ℕ → Bool
closed_by [] K = K
closed_by (c ∷ cs) K = closed_by cs (λ e. (eqb c e && leb (c % contracts_in_year) last_quarter) || K e)

closed_keeps : (cs : List ℕ) (K : ℕ → Bool) (e : ℕ) → K e ≡ true → closed_by cs K e ≡ true
unfolding closed_by
closed_keeps [] K e t = t
closed_keeps (c ∷ cs) K e t = closed_keeps cs _ e (rw t (or-true (eqb c e && leb (c % contracts_in_year) last_quarter)))

closed_has : (cs : List ℕ) (K : ℕ → Bool) (e : ℕ) → any (λ x. eqb x e) cs ≡ true → e % contracts_in_year < january → closed_by cs K e ≡ true
unfolding closed_by any
closed_has [] K e t b = never (sym t)
closed_has (c ∷ cs) K e t b =
    by_eqb (λ q. q || any (λ x. eqb x e) cs ≡ true → closed_by cs (λ e. (eqb c e && leb (c % contracts_in_year) last_quarter) || K e) e ≡ true) c e
    (λ q _. closed_keeps cs (λ e. (eqb c e && leb (c % contracts_in_year) last_quarter) || K e) e (rw (eq-eqb c e q, q, le-leb (e % contracts_in_year) last_quarter (omega arith))))
    (λ _ u. closed_has cs (λ e. (eqb c e && leb (c % contracts_in_year) last_quarter) || K e) e u b) t

either : (a b q : Bool) → (a && b) || q ≡ true → a || q ≡ true
either true b q e = refl
either false b q e = e

first : (a q : Bool) → q ≡ false → a || q ≡ true → a ≡ true
first true q f e = refl
first false q f e = never (sym e ∙ f)

only : (a b q : Bool) → b ≡ false → (a && b) || q ≡ true → q ≡ true
only true true q f e = never f
only true false q f e = e
only false b q f e = e

-- A contract's rows cascade in both columns, and nothing else changes.
abbrev rows_cascaded : ℕ → Tables → Tables
rows_cascaded c u = with_rows (cascaded (members u) c u.lots) (cascaded (members u) c u.value) u

unfoldable all_rows_cascaded : List ℕ → Tables → Tables
all_rows_cascaded [] u = u
all_rows_cascaded (c ∷ cs) u = all_rows_cascaded cs (rows_cascaded c u)

closed_rows : (cs : List ℕ) (u : Tables) (x : Column) (c m : ℕ) → row x (with_closed cs u) c m ≡ row x (all_rows_cascaded cs u) c m
unfolding with_closed all_cascaded all_rows_cascaded
closed_rows [] u lots e m = refl
closed_rows [] u value e m = refl
closed_rows (c ∷ cs) u lots e m = closed_rows cs (rows_cascaded c u) lots e m
closed_rows (c ∷ cs) u value e m = closed_rows cs (rows_cascaded c u) value e m

module _ (h : Header) (d : ℕ) (t : Tables) (r : Runs h d t) (s : Sound t) (log : List Line) where
  abbrev k : Calendar
  k = calendar_of h

  -- how far the evening's closing has come
  record Evening (u : Tables) (K : ℕ → Bool) : Type 0 where
    header : SameHeader time_place t.head u.head
    lots_long : rows_length ≤ length u.lots
    value_long : rows_length ≤ length u.value
    holds : Holds h (rows_of u) log K
    closed : Closed k d K

  few : h.members ≤ most_members
  few = rw r.size at s.few_members

  evening_next : (c : ℕ) (u : Tables) (K : ℕ → Bool) → c < term_count → is_on (term_closing_day k (term_of c)) d ≡ true → Evening u K
      → Evening (rows_cascaded c u) (λ e. (eqb c e && leb (c % contracts_in_year) last_quarter) || K e)
  unfolding still_to_close
  evening_next c u K b o v = record {
    header = v.header;
    lots_long = omega (arith, cascaded_length (members u) c u.lots v.lots_long b same32);
    value_long = omega (arith, cascaded_length (members u) c u.value v.value_long b same32);
    holds = le_or_lt january (c % contracts_in_year)
        (λ l. holds_fewer h _ log K _ (λ e _ q. only (eqb c e) (leb (c % contracts_in_year) last_quarter) (K e) (lt-leb (c % contracts_in_year) last_quarter l) q) (holds_same h (rows_of u) _ log K (λ x e m _ _. stays x e m l) v.holds))
        (λ l. holds_fewer h _ log (λ e. eqb c e || K e) _ (λ e _ q. either (eqb c e) (leb (c % contracts_in_year) last_quarter) (K e) q)
        (holds_cascaded h c (rows_of u) _ log K b l (children_clear k d K c b v.closed o l) (λ x e m q. moved x e m q l) v.holds));
    closed = λ e q. true_or (K e) (λ w. v.closed e w) (λ w. new e (first (eqb c e && leb (c % contracts_in_year) last_quarter) (K e) w q));
  }
    where
      size : members u ≡ h.members
      size = v.header.places members_place (field (omega arith)) ∙ r.size

      same32 : members u ≤ 32
      same32 = omega (arith, few, size)

      new : (e : ℕ) → eqb c e && leb (c % contracts_in_year) last_quarter ≡ true → (e % contracts_in_year < january) × (still_to_close k (suc d) (term_of e) ≡ false)
      new e q =
          let same = eqb-true c e (and_left (eqb c e) (leb (c % contracts_in_year) last_quarter) q) in
          rw (← same) (omega (arith, leb-true (c % contracts_in_year) last_quarter (and_right (eqb c e) (leb (c % contracts_in_year) last_quarter) q)), on_closed d (term_closing_day k (term_of c)) o)

      stays : (x : Column) (e m : ℕ) → january ≤ c % contracts_in_year → row x (rows_cascaded c u) e m ≡ row x u e m
      stays lots e m l = ap (λ z. get_or z (e * row_width + m) (pos 0)) (cascaded_month (members u) c u.lots l)
      stays value e m l = ap (λ z. get_or z (e * row_width + m) (pos 0)) (cascaded_month (members u) c u.value l)

      moved : (x : Column) (e m : ℕ) → m < h.members → c % contracts_in_year < january → row x (rows_cascaded c u) e m ≡ cond (eqb c e) (pos 0) (row x u e m +ℤ when (child_of c e) (row x u c m))
      moved lots e m q l = cascaded_row (members u) c u.lots v.lots_long b same32 e m l (omega (arith, size))
      moved value e m q l = cascaded_row (members u) c u.value v.value_long b same32 e m l (omega (arith, size))

  evening_all : (cs : List ℕ) (u : Tables) (K : ℕ → Bool) → All (λ c. (c < term_count) × (is_on (term_closing_day k (term_of c)) d ≡ true)) cs → Evening u K
      → Evening (all_rows_cascaded cs u) (closed_by cs K)
  unfolding all_rows_cascaded closed_by
  evening_all [] u K a v = v
  evening_all (c ∷ cs) u K a v = evening_all cs (rows_cascaded c u) _ a.1 (evening_next c u K a.0.0 a.0.1 v)

-- the orders that are left are of none of the contracts
orders_closed : (P : Order → Type 0) (cs : List ℕ) (u : Tables) → order_count_place < length u.head → All P (orders u) → All (λ o. P o × (is_of_any cs o ≡ false)) (orders (with_closed cs u))
unfolding with_closed
orders_closed P cs u b a =
    let stays : Order → Bool = λ o. not (is_of_any cs o) in
    rw (orders_same (with_orders (kept stays (orders u)) u) (with_closed cs u) refl refl ∙ orders_written (kept stays (orders u)) u b)
    (all_map (λ o. P o × (stays o ≡ true)) (λ o. P o × (is_of_any cs o ≡ false)) (kept stays (orders u)) (λ o p. (p.0, not_true (is_of_any cs o) p.1)) (all_kept P stays (orders u) a))
  where
    not_true : (b : Bool) → not b ≡ true → b ≡ false
    not_true true e = never (sym e)
    not_true false e = refl

-- ---- the list of contracts that close
abbrev all_contracts : List ℕ
all_contracts = contracts_of Year ++ (contracts_of Quarter ++ contracts_of Month)

contracts_below : every has_term all_contracts ≡ true
unfolding contracts_of kept from every term_of
contracts_below = refl

-- each has a term and closes today
pub closing_today : (t : Tables) → All (λ c. (c < term_count) × (is_on (term_closing_day (calendar t) (term_of c)) (day t) ≡ true)) (closing_contracts t)
unfolding closing_contracts
closing_today t =
    let p : ℕ → Bool = λ c. closes_on (calendar t) c (day t) in
    let today : ℕ → Bool = λ c. is_on (term_closing_day (calendar t) (term_of c)) (day t) in
    all_map (λ c. (has_term c ≡ true) × (p c ≡ true)) (λ c. (c < term_count) × (today c ≡ true)) (kept p all_contracts) (λ c q. (ltb-true c term_count q.0, and_right (has_term c) (today c) q.1))
    (all_kept (λ c. has_term c ≡ true) p all_contracts (every_all has_term all_contracts contracts_below))

contracts_listed : T (every (λ c. any (λ x. eqb x c) all_contracts) (from 0 term_count))
unfolding contracts_of kept from every any term_of
contracts_listed = tt

any_kept : (p : ℕ → Bool) (l : List ℕ) (c : ℕ) → any (λ x. eqb x c) l ≡ true → p c ≡ true → any (λ x. eqb x c) (kept p l) ≡ true
unfolding any kept
any_kept p [] c e q = e
any_kept p (x ∷ l) c e q =
    by_eqb (λ b. b || any (λ x. eqb x c) l ≡ true → any (λ x. eqb x c) (cond (p x) (x ∷ kept p l) (kept p l)) ≡ true) x c
    (λ s _. rw (s, q, eq-eqb c c refl))
    (λ s f. true_or (p x) (λ t. rw (t, any_kept p l c f q) (or-true (eqb x c))) (λ t. rw t (any_kept p l c f q))) e

closing_header : (cs : List ℕ) (u : Tables) → SameHeader time_place u.head (with_closed cs u).head
unfolding with_closed with_orders
closing_header cs u = set_other time_place u.head order_count_place _ (omega arith) (changing (omega arith) (omega arith))

-- ---- the new day
pub day_header : (x : ℕ) (v : Tables) → head_length ≤ length v.head → SameHeader day_place v.head (on_day x v).head
unfolding on_day without_submits
day_header x v b =
    let l = over submits_from (replicate (members v) 0) v.head in
    then_same (over_other day_place v.head (replicate (members v) 0) submits_from (omega arith) (omega arith) (omega arith))
    (then_same (set_other day_place l day_place x (omega arith) (changing (omega arith) (omega arith))) (set_other day_place (set l day_place x) time_place 0 (omega arith) (changing (omega arith) (omega arith))))

pub day_is : (x : ℕ) (v : Tables) → head_length ≤ length v.head → day (on_day x v) ≡ x
unfolding on_day without_submits
day_is x v b =
    let l = over submits_from (replicate (members v) 0) v.head in
    let longer = (over_other day_place v.head (replicate (members v) 0) submits_from (omega arith) (omega arith) (omega arith)).longer in
    get_or-set_other (set l day_place x) time_place day_place 0 0 (λ e. omega arith) ∙ get_or-set_same l day_place x 0 (omega (arith, longer))

day_orders : (x : ℕ) (v : Tables) → head_length ≤ length v.head → members v ≤ 32 → orders (on_day x v) ≡ orders v
unfolding on_day without_submits
day_orders x v b m =
    let l = over submits_from (replicate (members v) 0) v.head in
    orders_same v (on_day x v)
    (get_or-set_other (set l day_place x) time_place order_count_place 0 0 (λ e. omega arith) ∙ get_or-set_other l day_place order_count_place x 0 (λ e. omega arith)
    ∙ over_outside submits_from (replicate (members v) 0) v.head (omega (arith, length-replicate {A = ℕ} (members v) 0)) order_count_place 0 (λ q. absurd (omega arith))) refl

-- ---- the close of day
module _ (h : Header) (d : ℕ) (t : Tables) (r : Runs h d t) (s : Sound t) (n : ℕ) where
  closes : ℕ → Bool
  closes c = is_on (term_closing_day (calendar_of h) (term_of c)) d

  closes_here : (c : ℕ) → is_on (term_closing_day (calendar t) (term_of c)) (day t) ≡ closes c
  unfolding closes
  closes_here c = ap (λ k. is_on (term_closing_day k (term_of c)) (day t)) (runs_calendar r) ∙ ap (λ x. is_on (term_closing_day (calendar_of h) (term_of c)) x) r.today

  closing_all : All (λ c. (c < term_count) × (closes c ≡ true)) (closing_contracts t)
  closing_all = all_map _ (λ c. (c < term_count) × (closes c ≡ true)) (closing_contracts t) (λ c q. (q.0, sym (closes_here c) ∙ q.1)) (closing_today t)

  closing_listed : (c : ℕ) → c < term_count → closes c ≡ true → any (λ x. eqb x c) (closing_contracts t) ≡ true
  unfolding closing_contracts
  closing_listed c b e = any_kept (λ c. closes_on (calendar t) c (day t)) all_contracts c
      (passed _ (every_from (λ c. any (λ x. eqb x c) all_contracts) 0 term_count contracts_listed c (omega arith) (omega arith))) (rw (lt-ltb c term_count b) (closes_here c ∙ e))

  evening : (log : List Line) → Holds h (rows_of t) log (has_cascaded (calendar_of h) d) → Evening h d t r s log (priced n t) (has_cascaded (calendar_of h) d)
  unfolding priced
  evening log a = record {
    header = same_header time_place t.head;
    lots_long = s.lots_long;
    value_long = s.value_long;
    holds = holds_same h (rows_of t) (rows_of (priced n t)) log (has_cascaded (calendar_of h) d) (λ x c m _ _. as_before x c m) a;
    closed = closed_before (calendar_of h) d;
  }
    where
      as_before : (x : Column) (c m : ℕ) → row x (priced n t) c m ≡ row x t c m
      as_before lots c m = refl
      as_before value c m = refl

  module _ (x : DayNo) (next : next_business_day (calendar_of h) d ≡ Some x) where
    next_here : next_day t ≡ x.0
    unfolding next_day
    next_here = rw (ap (λ k. next_business_day k (day t)) (runs_calendar r) ∙ ap (next_business_day (calendar_of h)) r.today ∙ next, next_day)

    -- what has cascaded by the next day had cascaded before, or closes this evening
    cascaded_next : (e : ℕ) → e < contract_count → has_cascaded (calendar_of h) x.0 e ≡ true → closed_by (closing_contracts t) (has_cascaded (calendar_of h) d) e ≡ true
    unfolding has_cascaded closes
    cascaded_next e b q =
        let z = term_closing_day (calendar_of h) (term_of e) in
        let parent = cascaded_parent (calendar_of h) x.0 e q in
        let past = sym (closed_by_next (calendar_of h) d x (term_of e) next) ∙ cascaded_closed (calendar_of h) x.0 e q in
        true_or (is_before z d) (λ p. closed_keeps (closing_contracts t) (has_cascaded (calendar_of h) d) e (rw (lt-ltb e term_count parent.0, parent.1, p)))
        (λ p. closed_has (closing_contracts t) (has_cascaded (calendar_of h) d) e (closing_listed e parent.0 (rw p at past)) (omega (arith, leb-true (e % contracts_in_year) last_quarter parent.1)))

    -- an order that is left is of a contract that is open on the next day
    open_next : (o : Order) → InOpen h d o → is_of_any (closing_contracts t) o ≡ false → InOpen h x.0 o
    unfolding closes still_to_close is_of_any
    open_next o p q =
        let c = o.contract in
        let z = term_closing_day (calendar_of h) (term_of c) in
        let later : is_on z d ≡ false = true_or (is_on z d) (λ e. never (sym (closing_listed c (open_in_ledger (calendar_of h) d c p) e) ∙ q)) (λ e. e) in
        let still : is_before z d ≡ false = before_or_not d z ∙ ap not (open_to_close (calendar_of h) d c p) in
        let ahead : is_before z x.0 ≡ false = closed_by_next (calendar_of h) d x (term_of c) next ∙ rw (still, later) in
        open_stays (calendar_of h) d x.0 c (omega (arith, (next_business (calendar_of h) d x next).0)) p (not-false _ (sym (before_or_not x.0 z) ∙ ahead))

    day_rows : (y : ℕ) (v : Tables) (q : Column) (c m : ℕ) → row q (on_day y v) c m ≡ row q v c m
    unfolding on_day
    day_rows y v lots c m = refl
    day_rows y v value c m = refl

    pub close_does : Does h d x.0 t (close_booked t n)
    unfolding close_booked priced closes first_lines from
    close_does =
        let cs = closing_contracts t in
        let u = priced n t in
        let v = with_closed cs u in
        let a = closing_header cs u in
        let long : head_length ≤ length v.head = omega (arith, a.longer, s.head_long) in
        record {
          runs = runs_with day_place h d x.0 t (on_day (next_day t) v) (omega arith) r s (then_same (but_the_day a) (day_header (next_day t) v long)) (day_is (next_day t) v long ∙ next_here)
              (rw (day_orders (next_day t) v long (omega (arith, a.places members_place (field (omega arith)), s.few_members)))
              (all_map (λ o. InOpen h d o × (is_of_any cs o ≡ false)) (InOpen h x.0) (orders v) (λ o q. open_next o q.0 q.1)
              (orders_closed (InOpen h d) cs u (omega (arith, s.head_long)) (rw (orders_same t u refl refl) r.resting))));
          holds = λ log p. rw (append-nil log)
              (holds_fewer h (rows_of (on_day (next_day t) v)) log (closed_by cs (has_cascaded (calendar_of h) d)) (has_cascaded (calendar_of h) x.0) cascaded_next
              (holds_same h (rows_of (all_rows_cascaded cs u)) (rows_of (on_day (next_day t) v)) log (closed_by cs (has_cascaded (calendar_of h) d))
              (λ q c m _ _. day_rows (next_day t) v q c m ∙ closed_rows cs u q c m)
              (evening_all h d t r s log cs u (has_cascaded (calendar_of h) d) closing_all (evening log p)).holds));
        }

-- the list's day is then the next business day
no_next : (h : Header) (d : ℕ) (t : Tables) → Runs h d t → next_business_day (calendar_of h) d ≡ None → has_next_day t ≡ false
unfolding has_next_day
no_next h d t r e = rw (ap (λ k. next_business_day k (day t)) (runs_calendar r) ∙ ap (next_business_day (calendar_of h)) r.today ∙ e, has_next_day)

pub close_shows : (t : Tables) → Sound t → (n : ℕ) → has_next_day t ≡ true → (h : Header) (d : ℕ) → Runs h d t → Does h d (day_reached d (next_business_day (calendar_of h) d)) t (close_booked t n)
close_shows t s n q h d r = go (next_business_day (calendar_of h) d) refl
  where
    go : (z : Option DayNo) → next_business_day (calendar_of h) d ≡ z → Does h d (day_reached d (next_business_day (calendar_of h) d)) t (close_booked t n)
    go (Some x) e = rw e (close_does h d t r s n x e)
    go None e = never (sym q ∙ no_next h d t r e)
