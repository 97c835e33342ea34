-- The head stays sound through every record that no cause refuses.
use mathlib.Core.Path.{◌≡◌, refl, sym, ap, ◌∙◌}
use mathlib.Core.Bool.{Bool, true, false, not, cond, ◌&&◌}
use mathlib.Core.List.{List, [], ◌∷◌, ◌++◌}
use Prim.Native.Nat.{ℕ, ◌+◌, ◌-◌, ◌≤◌, ◌<◌}
use native.Mathlib.Omega.{arith}
use lib.Dec.{eqb, leb, ltb}
use lib.ListN.{length, get_or, set, take, drop, replicate, length-append, length-replicate, get_or-replicate}
use lib.Seq.{get_or-set_same, get_or-set_other, set_out}
use borrow.Author.Tests.{leb-true, leb-false, ltb-false, le-leb, lt-ltb, le-ltb, not-false}
use Rattle.std.specs.Prelude.{Option, Some, None}
use Rattle.arith.specs.Lists.{All, kept, total, over}
use Rattle.arith.proofs.Alls.{all_hold, hold_all, all_place}
use Rattle.arith.proofs.Among.{every_from, from_every}
use Rattle.arith.proofs.Overs.{over_inside, over_outside}
use Rattle.arith.proofs.Tests.{never, by_bool, le_or_lt, same_or, and_left, and_right, passed, passes, or_left, or_right}
use Rattle.rules.specs.Ledger.{head_length, limits_from, marks_from, submits_from, first_year_place, members_place, holiday_count_place, day_place, time_place, accepted_submits_place, lots_run_place, order_count_place, holidays_from, default_mark}
use Rattle.rules.specs.Ranges.{last_second, most_accepted_submits, most_limit, most_lots_run, most_members, most_orders, most_holidays, most_submits_in_second}
use Rattle.rules.specs.declared.event.CloseOutTerms.{CloseOutTerms}
use Rattle.rules.specs.declared.event.Leg.{Leg}
use Rattle.rules.specs.declared.event.Submission.{Submission}
use Rattle.rules.specs.declared.order.Order.{Order}
use Rattle.rules.specs.Days.{business_day, span_start, day_after_span, in_span, next_business_day}
use Rattle.rules.proofs.CalendarLaws.{next_business}
use Rattle.rules.specs.Header.{Header, calendar_of, calendar_sound, members_sound, day_sound}
use Rattle.rules.specs.Ledger.{Tables, Line, with_head, with_prices, members, holiday_count, day, time, accepted_submits, lots_run, order_count, limit, mark, submits_this_second, calendar}
use Rattle.rules.specs.Ledger.{orders, with_orders, line_run, booked, without_submits, timed, fresh_head, fresh}
use Rattle.rules.specs.Matching.{with_lots, matched, incoming, submit_lines, would_rest, submits_at, submit_orders, with_deals, submit_matched, counted, submit_booked}
use Rattle.rules.specs.Synthetic.{proposal_lines, used_by_legs, proposal_booked}
use Rattle.rules.specs.Default.{default_booked, close_out_lines, close_out_booked}
use Rattle.rules.specs.CloseOfDay.{closing_contracts, is_of_any, with_closed, priced, has_next_day, next_day, on_day, close_booked}
use Rattle.rules.specs.Refusals.{member_sound, head_sound, submit_causes, proposal_causes, close_out_causes, close_causes}
use Rattle.rules.proofs.SoundHeaders.{SoundHeader}
use Rattle.accounts.proofs.Heads.{SameHeader, OtherPlace, field, changing, of_member, same_header, then_same, set_other, over_other, same_holidays}
use Rattle.accounts.proofs.Runs.{runs_calendar}
use Rattle.accounts.proofs.Remains.{Remain, remain_length, kept_remain, legs_remain, matching_remain}
use Rattle.accounts.proofs.Books.{orders_count}
use Rattle.accounts.proofs.Closes.{day_is}
use Rattle.accounts.proofs.Fresh.{counts_of, holiday_count_of, limit_of, mark_of, submits_of, fresh_runs}
use Rattle.rules.specs.declared.units.DayNo.{DayNo}

-- ---- the places that records change, and the most that may stand at each
pub data Place (n i : ℕ) : Type 0 where
  of_time : i ≡ time_place → Place n i
  of_accepted : i ≡ accepted_submits_place → Place n i
  of_run : i ≡ lots_run_place → Place n i
  of_orders : i ≡ order_count_place → Place n i
  of_limit : (m : ℕ) → m < n → i ≡ limits_from + m → Place n i
  of_mark : (m : ℕ) → m < n → i ≡ marks_from + m → Place n i
  of_submits : (m : ℕ) → m < n → i ≡ submits_from + m → Place n i

unfoldable pub most : ℕ → ℕ
most i = cond (ltb i holidays_from) (get_or (0 ∷ 0 ∷ 0 ∷ 0 ∷ last_second ∷ most_accepted_submits ∷ most_lots_run ∷ most_orders ∷ []) i 0) (cond (ltb i marks_from) most_limit (cond (ltb i submits_from) default_mark most_submits_in_second))

module _ (m : ℕ) (few : m < most_members) where
  most_limit_holds : most (limits_from + m) ≡ most_limit
  unfolding most
  most_limit_holds = rw (le-ltb (limits_from + m) holidays_from (omega arith), lt-ltb (limits_from + m) marks_from (omega arith))

  most_mark : most (marks_from + m) ≡ default_mark
  unfolding most
  most_mark = rw (le-ltb (marks_from + m) holidays_from (omega arith), le-ltb (marks_from + m) marks_from (omega arith), lt-ltb (marks_from + m) submits_from (omega arith))

  most_submits : most (submits_from + m) ≡ most_submits_in_second
  unfolding most
  most_submits = rw (le-ltb (submits_from + m) holidays_from (omega arith), le-ltb (submits_from + m) marks_from (omega arith), le-ltb (submits_from + m) submits_from (omega arith))

-- the day is none of them
past_day : (n i : ℕ) → Place n i → day_place < i
past_day n i (of_time e) = omega arith
past_day n i (of_accepted e) = omega arith
past_day n i (of_run e) = omega arith
past_day n i (of_orders e) = omega arith
past_day n i (of_limit m h e) = omega arith
past_day n i (of_mark m h e) = omega arith
past_day n i (of_submits m h e) = omega arith

abbrev pub InRange : ℕ → List ℕ → Type 0
InRange n l = (i : ℕ) → Place n i → get_or l i 0 ≤ most i

-- ---- l' is the head l changed by a record whose lines are not booked yet
-- The header stands, except for the day where f is the place of the day. The places above are in their ranges. The lots run is l's.
pub record Stays (f n : ℕ) (l l' : List ℕ) : Type 0 where
  pub header : SameHeader f l l'
  pub ranges : InRange n l'
  pub run : get_or l' lots_run_place 0 ≡ get_or l lots_run_place 0

stays_start : {n : ℕ} {l : List ℕ} (f : ℕ) → InRange n l → Stays f n l l
stays_start {l = l} f b = record { header = same_header f l; ranges = b; run = refl }

-- a number in its place's range is written
set_in_range : (n : ℕ) (u : List ℕ) (j v : ℕ) → (Place n j → v ≤ most j) → InRange n u → InRange n (set u j v)
set_in_range n u j v h b i p =
    same_or i j
    (λ e. le_or_lt (length u) j (λ s. rw (set_out u j v s) (b i p)) (λ s. rw (e, get_or-set_same u j v 0 s) (h (rw e at p))))
    (λ e. rw (get_or-set_other u j i v 0 e) (b i p))

stays_set : {f n : ℕ} {l u : List ℕ} (j v : ℕ) → f ≤ time_place → OtherPlace f j → (lots_run_place ≡ j → ⊥) → (Place n j → v ≤ most j) → Stays f n l u → Stays f n l (set u j v)
stays_set {f} {n} {l} {u} j v q o z h k = record {
  header = then_same k.header (set_other f u j v q o);
  ranges = set_in_range n u j v h k.ranges;
  run = get_or-set_other u j lots_run_place v 0 z ∙ k.run;
}

-- zeros in the second's counts lower every place or leave it
abbrev zeros : ℕ → List ℕ
zeros n = replicate n 0

module _ (n : ℕ) (u : List ℕ) (few : n ≤ most_members) (long : head_length ≤ length u) where
  zeros_fit : submits_from + length (zeros n) ≤ length u
  zeros_fit = omega (arith, length-replicate {A = ℕ} n 0)

  zeros_other : (i : ℕ) → i < submits_from → get_or (over submits_from (zeros n) u) i 0 ≡ get_or u i 0
  zeros_other i h = over_outside submits_from (zeros n) u zeros_fit i 0 (λ a. absurd (omega arith))

  zeros_here : (m : ℕ) → m < n → get_or (over submits_from (zeros n) u) (submits_from + m) 0 ≡ 0
  zeros_here m h = over_inside submits_from (zeros n) u zeros_fit m 0 (omega (arith, length-replicate {A = ℕ} n 0)) ∙ get_or-replicate n m 0 0 h

  zeros_lower : (i : ℕ) → get_or (over submits_from (zeros n) u) i 0 ≤ get_or u i 0
  zeros_lower i =
      le_or_lt submits_from i
      (λ a. le_or_lt (submits_from + n) i (λ b. omega (arith, over_outside submits_from (zeros n) u zeros_fit i 0 (λ _. omega (arith, length-replicate {A = ℕ} n 0))))
      (λ b. let e : i ≡ submits_from + (i - submits_from) = omega arith in rw e (omega (arith, zeros_here (i - submits_from) (omega arith)))))
      (λ a. omega (arith, zeros_other i a))

stays_zeros : {f n : ℕ} {l u : List ℕ} → f ≤ time_place → n ≤ most_members → head_length ≤ length l → Stays f n l u → Stays f n l (over submits_from (zeros n) u)
stays_zeros {f} {n} {l} {u} q few long k =
    let longer : head_length ≤ length u = omega (arith, k.header.longer) in
    record {
      header = then_same k.header (over_other f u (zeros n) submits_from q (omega arith) (omega arith));
      ranges = λ i p. omega (arith, zeros_lower n u few longer i, k.ranges i p);
      run = zeros_other n u few longer lots_run_place (omega arith) ∙ k.run;
    }

-- ---- what is asked of a head
module _ (t : Tables) (holidays≤ : leb (holiday_count t) most_holidays ≡ true) (calendarIs : calendar_sound (calendar t) ≡ true) (membersAre : members_sound (members t) ≡ true)
    (dayIs : day_sound (calendar t) (day t) ≡ true) (b : InRange (members t) t.head) where
  member_shows : (m : ℕ) → m < members t → member_sound t m ≡ true
  unfolding member_sound
  member_shows m h =
      let few : m < most_members = omega (arith, leb-true (members t) most_members (and_right (leb 1 (members t)) (leb (members t) most_members) membersAre)) in
      let limitIs = le-leb (limit t m) most_limit (rw (most_limit_holds m few) at (b (limits_from + m) (of_limit m h refl))) in
      let markIs = le-leb (mark t m) default_mark (rw (most_mark m few) at (b (marks_from + m) (of_mark m h refl))) in
      let submitsAre = le-leb (submits_this_second t m) most_submits_in_second (rw (most_submits m few) at (b (submits_from + m) (of_submits m h refl))) in
      hold_all _ (limitIs, (markIs, (submitsAre, tt)))

  head_shows : head_sound t ≡ true
  unfolding head_sound most
  head_shows =
      let timeIs = le-leb (time t) last_second (b time_place (of_time refl)) in
      let acceptedAre = le-leb (accepted_submits t) most_accepted_submits (b accepted_submits_place (of_accepted refl)) in
      let runIs = le-leb (lots_run t) most_lots_run (b lots_run_place (of_run refl)) in
      let ordersAre = le-leb (order_count t) most_orders (b order_count_place (of_orders refl)) in
      let each = passed _ (from_every (member_sound t) 0 (members t) (λ m _ h. passes _ (member_shows m (omega arith)))) in
      hold_all _ (holidays≤, (calendarIs, (membersAre, (dayIs, (timeIs, (acceptedAre, (runIs, (ordersAre, (each, tt)))))))))

-- ---- a sound head is in its ranges, and a head in its ranges with the same header and a sound day is sound
module _ (t : Tables) (sound : head_sound t ≡ true) where
  few_members : members t ≤ most_members
  unfolding head_sound
  few_members = leb-true (members t) most_members (and_right (leb 1 (members t)) (leb (members t) most_members) (all_hold _ sound).1.1.0)

  member_sound_lem : (m : ℕ) → m < members t → member_sound t m ≡ true
  unfolding head_sound
  member_sound_lem m h = passed _ (every_from (member_sound t) 0 (members t) (passes _ (all_hold _ sound).1.1.1.1.1.1.1.1.0) m (omega arith) (omega arith))

  head_in_range : InRange (members t) t.head
  unfolding head_sound member_sound most
  head_in_range i (of_time e) = rw e (leb-true (time t) last_second (all_hold _ sound).1.1.1.1.0)
  head_in_range i (of_accepted e) = rw e (leb-true (accepted_submits t) most_accepted_submits (all_hold _ sound).1.1.1.1.1.0)
  head_in_range i (of_run e) = rw e (leb-true (lots_run t) most_lots_run (all_hold _ sound).1.1.1.1.1.1.0)
  head_in_range i (of_orders e) = rw e (leb-true (order_count t) most_orders (all_hold _ sound).1.1.1.1.1.1.1.0)
  head_in_range i (of_limit m h e) = rw (e, most_limit_holds m (omega (arith, few_members))) (leb-true (limit t m) most_limit (all_hold _ (member_sound_lem m h)).0)
  head_in_range i (of_mark m h e) = rw (e, most_mark m (omega (arith, few_members))) (leb-true (mark t m) default_mark (all_hold _ (member_sound_lem m h)).1.0)
  head_in_range i (of_submits m h e) = rw (e, most_submits m (omega (arith, few_members))) (leb-true (submits_this_second t m) most_submits_in_second (all_hold _ (member_sound_lem m h)).1.1.0)

  module _ (f : ℕ) (t' : Tables) (f≥ : day_place ≤ f) (long : head_length ≤ length t.head) (header : SameHeader f t.head t'.head) where
    same_members : members t' ≡ members t
    same_members = header.places members_place (field (omega arith))

    same_calendar : calendar t' ≡ calendar t
    unfolding head_sound
    same_calendar =
        let years = header.places first_year_place (field (omega arith)) in
        let days = ap (λ n. take n (drop holidays_from t'.head)) (header.places holiday_count_place (field (omega arith)))
        ∙ same_holidays f t.head t'.head (holiday_count t) header long (leb-true (holiday_count t) most_holidays (all_hold _ sound).0) in
        λ s. record { first_year = years s; holidays = days s }

    head_again : InRange (members t) t'.head → day_sound (calendar t) (day t') ≡ true → head_sound t' ≡ true
    unfolding head_sound
    head_again b d =
        let a = all_hold _ sound in
        head_shows t' (ap (λ n. leb n most_holidays) (header.places holiday_count_place (field (omega arith))) ∙ a.0) (ap calendar_sound same_calendar ∙ a.1.0) (ap members_sound same_members ∙ a.1.1.0)
        (ap (λ k. day_sound k (day t')) same_calendar ∙ d) (rw same_members b)

-- ---- orders that remain are no more than the orders
remain_few : (t : Tables) (os : List Order) → Remain (orders t) os → length os ≤ order_count t
remain_few t os r = omega (arith, remain_length r, orders_count t)

-- ---- each kind of record
-- a submit, and a default, before their lines are booked
unfoldable pub submit_unbooked : Tables → Submission → Tables
submit_unbooked t e = with_orders (submit_orders t e) (with_deals e.contract (submit_matched t e).deals (counted e.member (timed e.time t)))

unfoldable pub default_unbooked : Tables → ℕ → Tables
default_unbooked t m = with_orders (kept (λ o. not (eqb o.member m)) (orders t)) (with_head (set t.head (marks_from + m) default_mark) t)

module _ (t : Tables) (sound : head_sound t ≡ true) (long : head_length ≤ length t.head) where
  bounds : InRange (members t) t.head
  bounds = head_in_range t sound

  pub unchanged : (f : ℕ) → Stays f (members t) t.head t.head
  unchanged f = stays_start f bounds

  -- other orders are written
  stays_orders : {u : List ℕ} (f k : ℕ) → f ≤ time_place → k ≤ most_orders → Stays f (members t) t.head u → Stays f (members t) t.head (set u order_count_place k)
  unfolding most
  stays_orders f k q h w = stays_set order_count_place k q (changing (omega arith) (omega arith)) (λ e. omega arith) (λ _. h) w

  -- a record with lines: t' is what they are booked in
  head_booked : (ls : List Line) (t' : Tables) → Stays time_place (members t) t.head t'.head → lots_run t + line_run ls ≤ most_lots_run → head_sound (booked ls t').after ≡ true
  unfolding booked most head_sound
  head_booked ls t' w b =
      let after = (booked ls t').after in
      let header = then_same w.header (set_other time_place t'.head lots_run_place (lots_run t' + line_run ls) (omega arith) (changing (omega arith) (omega arith))) in
      head_again t sound time_place after (omega arith) long header (set_in_range (members t) t'.head lots_run_place (lots_run t' + line_run ls) (λ _. omega (arith, w.run)) w.ranges)
      (ap (day_sound (calendar t)) (header.places day_place (field (omega arith))) ∙ (all_hold _ sound).1.1.1.0)

  pub run_booked : (ls : List Line) (t' : Tables) → Stays time_place (members t) t.head t'.head → lots_run (booked ls t').after ≡ lots_run t + line_run ls
  unfolding booked
  run_booked ls t' w = get_or-set_same t'.head lots_run_place (lots_run t' + line_run ls) 0 (omega (arith, w.header.longer)) ∙ ap (λ n. n + line_run ls) w.run

  -- a record without lines keeps a sound head
  head_without : (t' : Tables) → Stays time_place (members t) t.head t'.head → head_sound (booked [] t').after ≡ true
  unfolding line_run total most
  head_without t' w = head_booked [] t' w (omega (arith, bounds lots_run_place (of_run refl)))

  -- a record's time is written
  stays_timed : (s : ℕ) → s ≤ last_second → Stays time_place (members t) t.head (timed s t).head
  unfolding timed without_submits most
  stays_timed s h =
      by_bool (λ b. Stays time_place (members t) t.head (cond b (with_head (set (without_submits t).head time_place s) t) t).head) (ltb (time t) s)
      (λ _. stays_set time_place s (omega arith) (changing (omega arith) (omega arith)) (λ e. omega arith) (λ _. h) (stays_zeros (omega arith) (few_members t sound) long (unchanged time_place)))
      (λ _. unchanged time_place)

  timed_accepted : (s : ℕ) → accepted_submits (timed s t) ≡ accepted_submits t
  unfolding timed without_submits
  timed_accepted s =
      by_bool (λ b. accepted_submits (cond b (with_head (set (without_submits t).head time_place s) t) t) ≡ accepted_submits t) (ltb (time t) s)
      (λ _. get_or-set_other (without_submits t).head time_place accepted_submits_place s 0 (λ e. omega arith) ∙ zeros_other (members t) t.head (few_members t sound) long accepted_submits_place (omega arith)) (λ _. refl)

  timed_submits : (s m : ℕ) → m < members t → submits_this_second (timed s t) m ≡ submits_at t s m
  unfolding timed without_submits submits_at
  timed_submits s m h =
      by_bool (λ b. submits_this_second (cond b (with_head (set (without_submits t).head time_place s) t) t) m ≡ cond b 0 (submits_this_second t m)) (ltb (time t) s)
      (λ _. get_or-set_other (without_submits t).head time_place (submits_from + m) s 0 (λ e. omega arith) ∙ zeros_here (members t) t.head (few_members t sound) long m h) (λ _. refl)

  -- a submit: below five in the second and below 4,000,000,000 in all before it
  module _ (e : Submission) (time≤ : e.time ≤ last_second) (member< : e.member < members t) (f : All (λ c. c.0 ≡ false) (submit_causes t e)) where
    totals : (lots_run t + line_run (submit_lines t e) ≤ most_lots_run) × (accepted_submits t < most_accepted_submits)
    totals =
        let runs = ltb most_lots_run (lots_run t + line_run (submit_lines t e)) in
        let counts = leb most_accepted_submits (accepted_submits t) in
        let passed = f.1.1.1.1.1.1.1.1.0 in
        (ltb-false _ _ (or_left runs counts passed), leb-false most_accepted_submits (accepted_submits t) (or_right runs counts passed))

    -- one more order rests only where there is room
    pub submit_few : length (submit_orders t e) ≤ most_orders
    unfolding submit_orders submit_matched matched most
    submit_few =
        let m = submit_matched t e in
        let rest = remain_few t m.resting (matching_remain (length (orders t)) (incoming t e) (orders t)) in
        by_bool (λ b. b && leb most_orders (length m.resting) ≡ false → length (cond b (m.resting ++ (with_lots m.left (incoming t e) ∷ [])) m.resting) ≤ most_orders) (would_rest t e)
        (λ _ q. simp length-append (omega (arith, leb-false most_orders (length m.resting) q))) (λ _ _. omega (arith, rest, bounds order_count_place (of_orders refl))) f.1.1.1.1.1.1.1.0

    pub submit_stays : Stays time_place (members t) t.head (submit_unbooked t e).head
    unfolding submit_unbooked with_orders with_deals counted most
    submit_stays =
        let m = e.member in
        let u = timed e.time t in
        stays_orders time_place (length (submit_orders t e)) (omega arith) submit_few
        (stays_set accepted_submits_place (accepted_submits u + 1) (omega arith) (changing (omega arith) (omega arith)) (λ q. omega arith) (λ _. omega (arith, timed_accepted e.time, totals.1))
        (stays_set (submits_from + m) (submits_this_second u m + 1) (omega arith) (of_member (omega arith)) (λ q. omega arith)
        (λ _. rw (most_submits m (omega (arith, few_members t sound))) (omega (arith, timed_submits e.time m member<, leb-false most_submits_in_second (submits_at t e.time m) f.1.1.1.1.0)))
        (stays_timed e.time time≤)))

    pub submit_head : head_sound (submit_booked t e).after ≡ true
    unfolding submit_booked submit_unbooked
    submit_head = head_booked (submit_lines t e) (submit_unbooked t e) submit_stays totals.0

  pub cancel_stays : (n : ℕ) (p : Order → Bool) → n ≤ last_second → Stays time_place (members t) t.head (with_orders (kept p (orders t)) (timed n t)).head
  unfolding with_orders most
  cancel_stays n p h = stays_orders time_place (length (kept p (orders t))) (omega arith) (omega (arith, remain_few t _ (kept_remain p (orders t)), bounds order_count_place (of_orders refl))) (stays_timed n h)

  pub cancel_head : (n : ℕ) (p : Order → Bool) → n ≤ last_second → head_sound (booked [] (with_orders (kept p (orders t)) (timed n t))).after ≡ true
  cancel_head n p h = head_without (with_orders (kept p (orders t)) (timed n t)) (cancel_stays n p h)

  pub limits_head : (l : List ℕ) → head_sound (booked [] (with_prices l t)).after ≡ true
  limits_head l = head_without (with_prices l t) (unchanged time_place)

  pub proposal_stays : (legs : List Leg) → Stays time_place (members t) t.head (with_orders (used_by_legs legs (orders t)) t).head
  unfolding with_orders most
  proposal_stays legs = stays_orders time_place (length (used_by_legs legs (orders t))) (omega arith) (omega (arith, remain_few t _ (legs_remain legs (orders t)), bounds order_count_place (of_orders refl))) (unchanged time_place)

  pub proposal_head : (legs : List Leg) → All (λ c. c.0 ≡ false) (proposal_causes t legs) → head_sound (proposal_booked t legs).after ≡ true
  unfolding proposal_booked
  proposal_head legs f = head_booked (proposal_lines t legs) (with_orders (used_by_legs legs (orders t)) t) (proposal_stays legs) (ltb-false _ _ f.1.0)

  pub default_stays : (m : ℕ) → m < members t → Stays time_place (members t) t.head (default_unbooked t m).head
  unfolding default_unbooked with_orders most
  default_stays m h =
      let others : Order → Bool = λ o. not (eqb o.member m) in
      stays_orders time_place (length (kept others (orders t))) (omega arith) (omega (arith, remain_few t _ (kept_remain others (orders t)), bounds order_count_place (of_orders refl)))
      (stays_set (marks_from + m) default_mark (omega arith) (of_member (omega arith)) (λ e. omega arith) (λ _. omega (arith, most_mark m (omega (arith, few_members t sound)))) (unchanged time_place))

  pub default_head : (m : ℕ) → m < members t → head_sound (default_booked t m).after ≡ true
  unfolding default_booked default_unbooked
  default_head m h = head_without (default_unbooked t m) (default_stays m h)

  pub close_out_head : (e : CloseOutTerms) → All (λ c. c.0 ≡ false) (close_out_causes t e) → head_sound (close_out_booked t e).after ≡ true
  unfolding close_out_booked
  close_out_head e f = head_booked (close_out_lines t e) t (unchanged time_place) (ltb-false _ _ f.1.1.1.1.0)

  -- ---- the close of day
  stays_closed : (cs : List ℕ) (u : Tables) → Stays day_place (members t) t.head u.head → Stays day_place (members t) t.head (with_closed cs u).head
  unfolding with_closed with_orders most
  stays_closed cs u w =
      let others : Order → Bool = λ o. not (is_of_any cs o) in
      stays_orders day_place (length (kept others (orders u))) (omega arith) (omega (arith, remain_few u _ (kept_remain others (orders u)), w.ranges order_count_place (of_orders refl))) w

  stays_day : (d : ℕ) (u : Tables) → members u ≡ members t → Stays day_place (members t) t.head u.head → Stays day_place (members t) t.head (on_day d u).head
  unfolding on_day without_submits most
  stays_day d u e w =
      let counts : Stays day_place (members t) t.head (over submits_from (zeros (members u)) u.head) = rw e (stays_zeros (omega arith) (few_members t sound) long w) in
      stays_set time_place 0 (omega arith) (changing (omega arith) (omega arith)) (λ q. omega arith) (λ _. omega arith)
      (stays_set day_place d (omega arith) (changing (omega arith) (omega arith)) (λ q. omega arith) (λ p. absurd (omega (arith, past_day (members t) day_place p))) counts)

  -- the next business day is in the span, since the day before it is
  next_sound : has_next_day t ≡ true → day_sound (calendar t) (next_day t) ≡ true
  unfolding head_sound day_sound in_span has_next_day next_day
  next_sound h = go (next_business_day (calendar t) (day t)) refl
    where
      first : span_start (calendar t) ≤ day t
      first =
          let span = leb (span_start (calendar t)) (day t) && ltb (day t) (day_after_span (calendar t)) in
          leb-true _ _ (and_left (leb (span_start (calendar t)) (day t)) (ltb (day t) (day_after_span (calendar t))) (and_left span (business_day (calendar t) (day t)) (all_hold _ sound).1.1.1.0))

      go : (z : Option DayNo) → next_business_day (calendar t) (day t) ≡ z → day_sound (calendar t) (next_day t) ≡ true
      go (Some x) e =
          let w = next_business (calendar t) (day t) x e in
          rw (e, next_day, le-leb (span_start (calendar t)) x.0 (omega (arith, first, w.0)), lt-ltb x.0 (day_after_span (calendar t)) w.2, w.1)
      go None e = never (sym h ∙ rw (e, has_next_day))

  pub close_stays : (n : ℕ) → Stays day_place (members t) t.head (close_booked t n).after.head
  unfolding close_booked priced
  close_stays n =
      let w = stays_closed (closing_contracts t) (priced n t) (unchanged day_place) in
      stays_day (next_day t) (with_closed (closing_contracts t) (priced n t)) (w.header.places members_place (field (omega arith))) w

  pub close_head : (n : ℕ) → All (λ c. c.0 ≡ false) (close_causes t n) → head_sound (close_booked t n).after ≡ true
  unfolding close_booked priced
  close_head n f =
      let v = with_closed (closing_contracts t) (priced n t) in
      head_again t sound day_place (on_day (next_day t) v) (omega arith) long (close_stays n).header (close_stays n).ranges
      (ap (day_sound (calendar t)) (day_is (next_day t) v (omega (arith, (stays_closed (closing_contracts t) (priced n t) (unchanged day_place)).header.longer))) ∙ next_sound (not-false _ f.1.0))

-- ---- the fresh ledger
fresh_in_range : (h : Header) (l : List ℕ) → SoundHeader h → head_length ≤ length l → InRange h.members (fresh_head h l)
unfolding most
fresh_in_range h l f long i (of_time e) = rw (e, (counts_of h f l long).0) (omega arith)
fresh_in_range h l f long i (of_accepted e) = rw (e, (counts_of h f l long).1) (omega arith)
fresh_in_range h l f long i (of_run e) = rw (e, (counts_of h f l long).2) (omega arith)
fresh_in_range h l f long i (of_orders e) = rw (e, (counts_of h f l long).3) (omega arith)
fresh_in_range h l f long i (of_limit m b e) =
    rw (e, most_limit_holds m (omega (arith, f.members_range.to)), limit_of h f l long m b) (all_place (λ x. x ≤ most_limit) 0 h.limits f.limits≤ m (omega (arith, f.one_limit)))
fresh_in_range h l f long i (of_mark m b e) = rw (e, mark_of h f l long m b) (omega arith)
fresh_in_range h l f long i (of_submits m b e) = rw (e, submits_of h f l long m b) (omega arith)

pub fresh_head_lem : (h : Header) (t : Tables) → SoundHeader h → head_length ≤ length t.head → head_sound (fresh h t) ≡ true
unfolding fresh
fresh_head_lem h t f long =
    let k = calendar_of h in
    let r = fresh_runs h t f long in
    let m = h.members in
    let size : members_sound m ≡ true = rw (le-leb 1 m f.members_range.from) (le-leb m most_members f.members_range.to) in
    head_shows (fresh h t) (le-leb (holiday_count (fresh h t)) most_holidays (omega (arith, holiday_count_of h f t.head long, f.holidays≤)))
    (ap calendar_sound (runs_calendar r) ∙ f.calendar_sound_holds) (ap members_sound r.size ∙ size)
    (ap (λ x. day_sound x (day (fresh h t))) (runs_calendar r) ∙ ap (day_sound k) r.today ∙ f.start_sound) (rw r.size (fresh_in_range h t.head f long))
