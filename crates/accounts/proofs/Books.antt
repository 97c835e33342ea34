-- The book stays sound: after every record its orders are sound, no two share a number, and there are 256 at most.
use mathlib.Core.Path.{◌≡◌, refl, sym, ap, subst, ◌∙◌}
use mathlib.Core.Bool.{Bool, true, false, not, cond, ◌&&◌}
use mathlib.Core.List.{List, [], ◌∷◌, ◌++◌, flat_map}
use Prim.Native.Nat.{ℕ, zero, suc, ◌+◌, ◌*◌, ◌≤◌, ◌<◌}
use native.Mathlib.Omega.{arith}
use lib.Dec.{T, eqb, leb, ltb}
use lib.ListN.{length, get_or, set, take, drop, replicate, length-map, length-append, length-replicate}
use lib.Seq.{get_or-append-add, get_or-set_other, get_or-set_same}
use borrow.Author.Tests.{leb-false, ltb-true, ne_eqb}
use Rattle.arith.specs.Lists.{All, every, kept, from, over}
use Rattle.arith.proofs.Alls.{hold_all, all_every, all_map, all_append}
use Rattle.arith.proofs.Among.{from_every}
use Rattle.arith.proofs.Overs.{over_outside}
use Rattle.arith.proofs.Tests.{by_bool, passed, and_right}
use Rattle.rules.specs.Ranges.{most_members, most_orders}
use Rattle.rules.specs.Ledger.{head_length, marks_from, order_count_place, order_width, submits_from, first_year_place, members_place, holiday_count_place, day_place, time_place, lots_run_place, holidays_from, default_mark, accepted_submits_place}
use Rattle.rules.specs.declared.event.CloseOutTerms.{CloseOutTerms}
use Rattle.rules.specs.declared.event.Leg.{Leg}
use Rattle.rules.specs.declared.event.Submission.{Submission}
use Rattle.rules.specs.declared.order.Order.{Order}
use Rattle.rules.specs.declared.order.Side.{Side}
use Rattle.rules.specs.declared.order.Side.TheVariants.{Buy, Sell}
use Rattle.rules.specs.Days.{in_span}
use Rattle.rules.specs.Sides.{side_number}
use Rattle.rules.specs.Ledger.{Tables, Line, with_head, with_prices, members, holiday_count, day, time, accepted_submits, submits_this_second, calendar, order_count, side_at, order_places}
use Rattle.rules.specs.Ledger.{orders, with_orders, without_submits, timed, booked}
use Rattle.rules.specs.Matching.{with_lots, Matched, matched, incoming, submit_matched, submit_lines, is_resting, would_rest, submit_orders, with_deals, counted, submit_booked}
use Rattle.rules.specs.Synthetic.{used_by_legs, proposal_lines, proposal_booked}
use Rattle.rules.specs.Default.{close_out_lines, close_out_booked, default_booked}
use Rattle.rules.specs.CloseOfDay.{closing_contracts, is_of_any, with_closed, priced, next_day, on_day, close_booked}
use Rattle.rules.specs.Refusals.{order_sound, sides_sound, book_sound}
use Rattle.rules.proofs.SoundEvents.{SoundSubmission}
use Rattle.rules.proofs.SoundTables.{SoundOrder, order_sound_lem, book_gives}
use Rattle.accounts.proofs.Heads.{SameHeader, field, changing, of_member, same_header, then_same, set_other, same_holidays, but_the_day}
use Rattle.accounts.proofs.Runs.{Sound, orders_same, timed_same}
use Rattle.accounts.proofs.Written.{orders_written}
use Rattle.accounts.proofs.Closes.{day_header}
use Rattle.accounts.proofs.Remains.{Remain, remain_same, remain_length, remain_all, remain_distinct, distinct_more, orders_distinct, kept_remain}
use Rattle.accounts.proofs.Remains.{legs_remain, matching_remain, deals_total, HasLots, deals_few}
use Rattle.arith.proofs.Appends.{from_length}
use Rattle.rules.proofs.Distinct.{Distinct, distinct_orders}

-- ---- orders
-- what the soundness of an order reads of the tables: the members and the calendar stand, accepted submits do not fall
pub record SameTerms (t t' : Tables) : Type 0 where
  pub more : accepted_submits t ≤ accepted_submits t'
  pub size : members t' ≡ members t
  pub days : calendar t' ≡ calendar t

-- the terms stay after a record whose head kept the header; with f = 3 the day is another one
pub header_terms : {f : ℕ} (t t' : Tables) → day_place ≤ f → Sound t → SameHeader f t.head t'.head → accepted_submits t ≤ accepted_submits t' → SameTerms t t'
header_terms {f} t t' q s a b =
    let year = a.places first_year_place (field (omega arith)) in
    let listed = ap (λ n. take n (drop holidays_from t'.head)) (a.places holiday_count_place (field (omega arith))) ∙ same_holidays f t.head t'.head (holiday_count t) a s.head_long s.few_holidays in
    record { more = b; size = a.places members_place (field (omega arith)); days = λ i. record { first_year = year i; holidays = listed i } }

-- a sound order stays sound, with fewer lots too
order_stays : (t t' : Tables) → SameTerms t t' → (o : Order) (q : ℕ) → (0 < o.lots.0 → 0 < q) → q ≤ o.lots.0 → SoundOrder t o → SoundOrder t' (with_lots q o)
order_stays t t' s o q u v a = record {
  number< = omega (arith, a.number<, s.more);
  member< = rw s.size a.member<;
  contract< = a.contract<;
  price = a.price;
  lots = record { from = u a.lots.from; to = omega (arith, a.lots.to) };
  day_in_span = ap (λ k. in_span k o.day.0) s.days ∙ a.day_in_span;
  time≤ = a.time≤;
}

-- ---- sides, as they stand in the book
side_number_lem : (s : Side) → T (leb (side_number s) 1)
side_number_lem Buy = tt
side_number_lem Sell = tt

side_at_lem : (os : List Order) (l : List ℕ) (i : ℕ) → i < length os → T (leb (side_at (flat_map order_places os ++ l) i) 1)
unfolding flat_map
side_at_lem [] l i h = absurd (omega arith)
side_at_lem (o ∷ os) l zero h = side_number_lem o.side
side_at_lem (o ∷ os) l (suc i) h =
    let rest = flat_map order_places os ++ l in
    let next : suc i * order_width + 3 ≡ 8 + (i * order_width + 3) = omega arith in
    subst (λ z. T (leb z 1)) (sym (ap (λ n. get_or (order_places o ++ rest) n 0) next ∙ get_or-append-add (order_places o) rest (i * order_width + 3) 0)) (side_at_lem os l i (omega arith))

-- what is written in the book is 0 or 1
pub sides_written : (os : List Order) (t : Tables) → order_count_place < length t.head → sides_sound (with_orders os t) ≡ true
unfolding sides_sound with_orders over
sides_written os t h =
    rw (get_or-set_same t.head order_count_place (length os) 0 h)
    (passed _ (from_every _ 0 (length os) (λ i _ b. side_at_lem os (drop (0 + length (flat_map order_places os)) t.book) i (omega arith))))

-- sides are read from the count and the book alone
pub sides_same : (t t' : Tables) → order_count t' ≡ order_count t → t'.book ≡ t.book → sides_sound t' ≡ sides_sound t
unfolding sides_sound
sides_same t t' n b = rw (n, b)

-- ---- the book
-- a sound book with at most 256 orders
pub record BookKept (t : Tables) : Type 0 where
  pub sound : book_sound t ≡ true
  pub few : order_count t ≤ most_orders

pub orders_count : (t : Tables) → length (orders t) ≡ order_count t
unfolding orders
orders_count t = length-map (from 0 (order_count t)) _ ∙ from_length 0 (order_count t)

-- a book is sound by its sides, its orders and their numbers
sound_book : (t : Tables) → sides_sound t ≡ true → All (SoundOrder t) (orders t) → Distinct (orders t) → length (orders t) ≤ most_orders → BookKept t
unfolding book_sound
sound_book t s a d f = record {
  sound = hold_all _ (s, (all_every (order_sound t) (orders t) (all_map (SoundOrder t) (λ o. order_sound t o ≡ true) (orders t) (order_sound_lem t) a), (orders_distinct (orders t) d, tt)));
  few = omega (arith, orders_count t);
}

-- a sound book's sides are sound
book_sides : (t : Tables) → book_sound t ≡ true → sides_sound t ≡ true
book_sides t e = (book_gives t e).sides

book_orders : (t : Tables) → book_sound t ≡ true → All (SoundOrder t) (orders t)
book_orders t e = (book_gives t e).each

book_distinct : (t : Tables) → book_sound t ≡ true → Distinct (orders t)
book_distinct t e = distinct_orders (orders t) (book_gives t e).numbers

pub empty_book : (t : Tables) → order_count t ≡ 0 → BookKept t
unfolding orders sides_sound from every
empty_book t e = sound_book t (rw e refl) (rw e tt) (rw e tt) (omega (arith, orders_count t))

-- what remains of a sound book's orders, written or left as it was, is a sound book
pub remains_kept : (t t' : Tables) → SameTerms t t' → BookKept t → sides_sound t' ≡ true → Remain (orders t) (orders t') → BookKept t'
remains_kept t t' s k sides x =
    sound_book t' sides
    (remain_all (SoundOrder t) (SoundOrder t') (order_stays t t' s) x (book_orders t k.sound))
    (remain_distinct x (book_distinct t k.sound)) (omega (arith, remain_length x, orders_count t, k.few))

-- ---- places of the head
pub booked_place : (ls : List Line) (t : Tables) (i : ℕ) → (i ≡ lots_run_place → ⊥) → get_or (booked ls t).after.head i 0 ≡ get_or t.head i 0
unfolding booked
booked_place ls t i z = get_or-set_other t.head lots_run_place i _ 0 z

booked_header : (ls : List Line) (t : Tables) → SameHeader time_place t.head (booked ls t).after.head
unfolding booked
booked_header ls t = set_other time_place t.head lots_run_place _ (omega arith) (changing (omega arith) (omega arith))

pub written_header : (os : List Order) (t : Tables) → SameHeader time_place t.head (with_orders os t).head
unfolding with_orders
written_header os t = set_other time_place t.head order_count_place _ (omega arith) (changing (omega arith) (omega arith))

written_accepted : (os : List Order) (t : Tables) → accepted_submits (with_orders os t) ≡ accepted_submits t
unfolding with_orders
written_accepted os t = get_or-set_other t.head order_count_place accepted_submits_place (length os) 0 (λ e. omega arith)

-- the second's counts lie behind the other places
pub without_place : (t : Tables) (i : ℕ) → head_length ≤ length t.head → members t ≤ most_members → i < submits_from → get_or (without_submits t).head i 0 ≡ get_or t.head i 0
unfolding without_submits
without_place t i b m l = over_outside submits_from (replicate (members t) 0) t.head (omega (arith, length-replicate {A = ℕ} (members t) 0)) i 0 (λ q. absurd (omega arith))

-- a later time leaves the count of accepted submits
timed_accepted : (n : ℕ) (t : Tables) → Sound t → accepted_submits (timed n t) ≡ accepted_submits t
unfolding timed
timed_accepted n t s =
    by_bool (λ b. accepted_submits (cond b (with_head (set (without_submits t).head time_place n) t) t) ≡ accepted_submits t) (ltb (time t) n)
    (λ _. get_or-set_other (without_submits t).head time_place accepted_submits_place n 0 (λ e. omega arith) ∙ without_place t accepted_submits_place s.head_long s.few_members (omega arith)) (λ _. refl)

-- ---- a record that writes orders os in tables u, which have the header of t
module _ (ls : List Line) (os : List Order) (t u : Tables) (s : Sound t) (a : SameHeader time_place t.head u.head) where
  abbrev after : Tables
  after = (booked ls (with_orders os u)).after

  long : order_count_place < length u.head
  long = omega (arith, a.longer, s.head_long)

  count_stays : order_count after ≡ order_count (with_orders os u)
  count_stays = booked_place ls (with_orders os u) order_count_place (λ e. omega arith)

  orders_after : orders after ≡ os
  unfolding booked
  orders_after = orders_same (with_orders os u) after count_stays refl ∙ orders_written os u long

  sides_after : sides_sound after ≡ true
  unfolding booked
  sides_after = sides_same (with_orders os u) after count_stays refl ∙ sides_written os u long

  accepted_after : accepted_submits after ≡ accepted_submits u
  accepted_after = booked_place ls (with_orders os u) accepted_submits_place (λ e. omega arith) ∙ written_accepted os u

  terms_after : accepted_submits t ≤ accepted_submits u → SameTerms t after
  terms_after b = header_terms t after (omega arith) s (then_same a (then_same (written_header os u) (booked_header ls (with_orders os u)))) (omega (arith, accepted_after))

-- ---- records that take orders out of the book, or use lots of them, or leave it
module _ (t : Tables) (s : Sound t) (k : BookKept t) where
  -- os: what remains of the orders; u: tables with the header and the accepted submits of t
  taken_book : (ls : List Line) (os : List Order) (u : Tables) → SameHeader time_place t.head u.head → accepted_submits u ≡ accepted_submits t → Remain (orders t) os
      → BookKept (booked ls (with_orders os u)).after
  taken_book ls os u a same x =
      remains_kept t (booked ls (with_orders os u)).after (terms_after ls os t u s a (omega arith)) k (sides_after ls os t u s a) (rw (orders_after ls os t u s a) x)

  pub cancel_book : (n : ℕ) (p : Order → Bool) → BookKept (booked [] (with_orders (kept p (orders t)) (timed n t))).after
  cancel_book n p = taken_book [] (kept p (orders t)) (timed n t) (timed_same n t s) (timed_accepted n t s) (kept_remain p (orders t))

  pub default_book : (m : ℕ) → BookKept (default_booked t m).after
  unfolding default_booked
  default_book m =
      taken_book [] (kept (λ o. not (eqb o.member m)) (orders t)) (with_head (set t.head (marks_from + m) default_mark) t) (set_other time_place t.head (marks_from + m) 1 (omega arith) (of_member (omega arith)))
      (get_or-set_other t.head (marks_from + m) accepted_submits_place default_mark 0 (λ e. omega arith)) (kept_remain _ (orders t))

  pub proposal_book : (legs : List Leg) → BookKept (proposal_booked t legs).after
  unfolding proposal_booked
  proposal_book legs = taken_book (proposal_lines t legs) (used_by_legs legs (orders t)) t (same_header time_place t.head) refl (legs_remain legs (orders t))

  -- u: tables with the head and the book of t
  left_book : (ls : List Line) (u : Tables) → u.head ≡ t.head → u.book ≡ t.book → BookKept (booked ls u).after
  unfolding booked
  left_book ls u head book =
      let t' = (booked ls u).after in
      let at : (i : ℕ) → (i ≡ lots_run_place → ⊥) → get_or t'.head i 0 ≡ get_or t.head i 0 = λ i z. booked_place ls u i z ∙ ap (λ l. get_or l i 0) head in
      let same : SameHeader time_place t.head t'.head = subst (λ l. SameHeader time_place l t'.head) head (booked_header ls u) in
      let count = at order_count_place (λ e. omega arith) in
      remains_kept t t' (header_terms t t' (omega arith) s same (omega (arith, at accepted_submits_place (λ e. omega arith)))) k
      (sides_same t t' count book ∙ book_sides t k.sound) (rw (orders_same t t' count book) (remain_same (orders t)))

  pub limits_book : (l : List ℕ) → BookKept (booked [] (with_prices l t)).after
  limits_book l = left_book [] (with_prices l t) refl refl

  pub close_out_book : (e : CloseOutTerms) → BookKept (close_out_booked t e).after
  unfolding close_out_booked
  close_out_book e = left_book (close_out_lines t e) t refl refl

-- ---- a submit
-- on a sound book it has no more deals than lots
pub submit_deals : (t : Tables) (e : Submission) → book_sound t ≡ true → length (submit_matched t e).deals ≤ e.lots.0
unfolding submit_matched matched
submit_deals t e b =
    let resting = all_map (SoundOrder t) HasLots (orders t) (λ o a. a.lots.from) (book_orders t b) in
    omega (arith, deals_few (length (orders t)) (incoming t e) (orders t) resting)

-- t': tables with one more accepted submit
module _ (t t' : Tables) (terms : SameTerms t t') (later : accepted_submits t < accepted_submits t') (k : BookKept t) (e : Submission)
    (fine : SoundSubmission (members t) e) (today : in_span (calendar t) (day t) ≡ true)
    (room : would_rest t e && leb most_orders (length (submit_matched t e).resting) ≡ false) where
  abbrev m : Matched
  m = submit_matched t e

  abbrev new : Order
  new = with_lots m.left (incoming t e)

  resting_remain : Remain (orders t) m.resting
  unfolding submit_matched matched
  resting_remain = matching_remain (length (orders t)) (incoming t e) (orders t)

  left_most : m.left ≤ e.lots.0
  unfolding submit_matched matched
  left_most = omega (arith, deals_total (length (orders t)) (incoming t e) (orders t))

  left_some : would_rest t e ≡ true → 0 < m.left
  unfolding would_rest
  left_some w = ltb-true 0 m.left (and_right (is_resting e.kind) (ltb 0 m.left) w)

  -- the order that rests is sound
  new_sound : 0 < m.left → SoundOrder t' new
  new_sound some = record {
    number< = later;
    member< = rw terms.size fine.member<;
    contract< = fine.contract<;
    price = fine.price;
    lots = record { from = some; to = omega (arith, left_most, fine.lots.to) };
    day_in_span = ap (λ c. in_span c (day t)) terms.days ∙ today;
    time≤ = fine.time≤;
  }

  resting_sound : All (SoundOrder t') m.resting
  resting_sound = remain_all (SoundOrder t) (SoundOrder t') (order_stays t t' terms) resting_remain (book_orders t k.sound)

  -- no other has its number
  number_new : (o : Order) (q : ℕ) → (0 < o.lots.0 → 0 < q) → q ≤ o.lots.0 → SoundOrder t o → eqb o.number (accepted_submits t) ≡ false
  number_new o q u v a = ne_eqb o.number (accepted_submits t) (omega (arith, a.number<))

  submit_sound : All (SoundOrder t') (submit_orders t e)
  unfolding submit_orders
  submit_sound =
      by_bool (λ b. All (SoundOrder t') (cond b (m.resting ++ (new ∷ [])) m.resting)) (would_rest t e)
      (λ w. all_append (SoundOrder t') m.resting (new ∷ []) resting_sound (new_sound (left_some w), tt)) (λ _. resting_sound)

  submit_distinct : Distinct (submit_orders t e)
  unfolding submit_orders
  submit_distinct =
      let d = remain_distinct resting_remain (book_distinct t k.sound) in
      by_bool (λ b. Distinct (cond b (m.resting ++ (new ∷ [])) m.resting)) (would_rest t e)
      (λ _. distinct_more m.resting new (remain_all (SoundOrder t) (λ o. eqb o.number (accepted_submits t) ≡ false) number_new resting_remain (book_orders t k.sound)) d)
      (λ _. d)

  submit_few : length (submit_orders t e) ≤ most_orders
  unfolding submit_orders
  submit_few =
      by_bool (λ b. b && leb most_orders (length m.resting) ≡ false → length (cond b (m.resting ++ (new ∷ [])) m.resting) ≤ most_orders) (would_rest t e)
      (λ _ f. simp length-append (omega (arith, leb-false most_orders (length m.resting) f))) (λ _ _. omega (arith, remain_length resting_remain, orders_count t, k.few)) room

pub submit_book : (t : Tables) → Sound t → BookKept t → (e : Submission) → SoundSubmission (members t) e → in_span (calendar t) (day t) ≡ true
    → would_rest t e && leb most_orders (length (submit_matched t e).resting) ≡ false → BookKept (submit_booked t e).after
unfolding submit_booked with_deals counted
submit_book t s k e fine today room =
    let u = timed e.time t in
    let one = submits_this_second u e.member + 1 in
    let l = set u.head (submits_from + e.member) one in
    let v = with_deals e.contract (submit_matched t e).deals (counted e.member u) in
    let os = submit_orders t e in
    let ls = submit_lines t e in
    let t' = (submit_booked t e).after in
    let a = then_same (timed_same e.time t s) (set_other time_place u.head (submits_from + e.member) one (omega arith) (of_member (omega arith))) in
    let b = then_same a (set_other time_place l accepted_submits_place (accepted_submits u + 1) (omega arith) (changing (omega arith) (omega arith))) in
    let one_more : accepted_submits v ≡ accepted_submits t + 1 = get_or-set_same l accepted_submits_place (accepted_submits u + 1) 0 (omega (arith, a.longer, s.head_long)) ∙ ap (λ n. n + 1) (timed_accepted e.time t s) in
    let terms : SameTerms t t' = terms_after ls os t v s b (omega arith) in
    let later : accepted_submits t < accepted_submits t' = omega (arith, accepted_after ls os t v s b) in
    let is = orders_after ls os t v s b in
    sound_book t' (sides_after ls os t v s b) (rw is (submit_sound t t' terms later k e fine today room)) (rw is (submit_distinct t t' terms later k e fine today room))
    (rw is (submit_few t t' terms later k e fine today room))

-- ---- the close of day
-- v: the tables u with some contracts closed
record Closed (u v : Tables) : Type 0 where
  header : SameHeader time_place u.head v.head
  numbers : accepted_submits v ≡ accepted_submits u
  sides : sides_sound v ≡ true
  remain : Remain (orders u) (orders v)

closed_all : (cs : List ℕ) (u : Tables) → order_count_place < length u.head → sides_sound u ≡ true → Closed u (with_closed cs u)
unfolding with_closed
closed_all cs u long a =
    let os = kept (λ o. not (is_of_any cs o)) (orders u) in
    let w = with_orders os u in
    record {
      header = written_header os u;
      numbers = written_accepted os u;
      sides = sides_same w (with_closed cs u) refl refl ∙ sides_written os u long;
      remain = rw (orders_same w (with_closed cs u) refl refl ∙ orders_written os u long) (kept_remain _ (orders u));
    }

-- the new day changes neither the book nor the count of accepted submits
pub day_place_lem : (x : ℕ) (t : Tables) (i : ℕ) → head_length ≤ length t.head → members t ≤ most_members → time_place < i → i < submits_from → get_or (on_day x t).head i 0 ≡ get_or t.head i 0
unfolding on_day
day_place_lem x t i b m l h =
    get_or-set_other (set (without_submits t).head day_place x) time_place i 0 0 (λ e. omega arith) ∙ get_or-set_other (without_submits t).head day_place i x 0 (λ e. omega arith)
    ∙ without_place t i b m h

pub close_book : (t : Tables) → Sound t → BookKept t → (n : ℕ) → BookKept (close_booked t n).after
unfolding close_booked priced on_day
close_book t s k n =
    let u = priced n t in
    let v = with_closed (closing_contracts t) u in
    let t' = on_day (next_day t) v in
    let a = closed_all (closing_contracts t) u (omega (arith, s.head_long)) (sides_same t u refl refl ∙ book_sides t k.sound) in
    let long : head_length ≤ length v.head = omega (arith, a.header.longer, s.head_long) in
    let few : members v ≤ most_members = omega (arith, a.header.places members_place (field (omega arith)), s.few_members) in
    let at : (i : ℕ) → time_place < i → i < submits_from → get_or t'.head i 0 ≡ get_or v.head i 0 = λ i. day_place_lem (next_day t) v i long few in
    let count = at order_count_place (omega arith) (omega arith) in
    let same = then_same (but_the_day a.header) (day_header (next_day t) v long) in
    remains_kept t t' (header_terms t t' (omega arith) s same (omega (arith, at accepted_submits_place (omega arith) (omega arith), a.numbers))) k (sides_same v t' count refl ∙ a.sides)
    (rw (orders_same v t' count refl) (rw (orders_same t u refl refl) at a.remain))
