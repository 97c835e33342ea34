-- Bytes begin with a sound header exactly if no field of it is at fault. Assumes nothing.
use Prim.Native.Nat.{ℕ, zero, suc, ◌+◌, ◌*◌, ◌-◌, ◌≤◌}
use mathlib.Core.Bool.{Bool, true, false, not, cond, ◌&&◌, ◌||◌, and_assoc}
use mathlib.Core.List.{List, [], ◌∷◌, ◌++◌, map}
use mathlib.Core.Path.{◌≡◌, refl, sym}
use native.Mathlib.Nat.{add_assoc}
use native.Mathlib.Omega.{arith}
use borrow.Author.Tests.{eq-eqb, ne_eqb, le-leb, lt-leb, lt-ltb, le-ltb, leb-true}
use lib.Dec.{eqb, leb, ltb}
use lib.ListN.{length, take, get_or, replicate}
use Rattle.arith.specs.Lists.{from, every, any}
use Rattle.arith.proofs.Columns.{mapped_length}
use Rattle.arith.proofs.Tests.{true_or, le_or_lt, same_or, and_false, and_true, and_left}
use Rattle.rules.specs.Days.{Calendar, saturday, sunday, business_day, span_start, day_after_span, in_span}
use Rattle.rules.specs.Header.{u16_at, u32_at, u16s_at, u32s_at, letters_and_version, same_bytes, header_length, header_of, rising, first_year_sound, calendar_sound}
use Rattle.rules.specs.Header.{members_sound, limit_sound, day_sound, header_sound, begins_with_header}
use Rattle.rules.specs.Ranges.{least_first_year, most_first_year, most_members, most_holidays}
use Rattle.rules.proofs.Rising.{rising_cons, rising_short}
use Rattle.rules.specs.declared.field.Field.{Field}
use Rattle.rules.specs.declared.field.Field.TheVariants.{Holiday, Limit}
use Rattle.listing_words.specs.declared.field.Verdict.TheVariants.{Passes, NoBusinessDay, OnStartDay}
use Rattle.listing.specs.Exact.{HeaderExact}
use Rattle.rules.specs.Fields.{widths, width_of, number_at}
use Rattle.listing_words.specs.Fields.{fields_in, header_shape, range, span_range, holiday_range, within, passes, is_none, header_fault}
use Rattle.listing.proofs.Faults.{in_ranges, none_is, from_zero, last_before}
use Rattle.listing.proofs.HeaderSizes.{widths_holidays, header_widths}
use Rattle.listing.proofs.SpanDays.{some_day}

-- ---- tests
one_value : (x v : ℕ) → within (range x x) v ≡ eqb v x
unfolding within
one_value x v =
    same_or v x (λ e. rw (e, le-leb x x (omega arith), eq-eqb x x refl) refl)
    (λ e. rw (ne_eqb v x e) (le_or_lt x v (λ h. rw (le-leb x v h, lt-leb v x (omega arith)) refl) (λ h. rw (lt-leb x v h) refl)))

version : (d e : ℕ) → eqb (d * 256 + e) 1 ≡ eqb d 0 && (eqb e 1 && true)
version d e =
    same_or d 0 (λ h. let z : d * 256 + e ≡ e = omega arith in rw (z, eq-eqb d 0 h) (sym (and_true (eqb e 1))))
    (λ h. rw (ne_eqb d 0 h, ne_eqb (d * 256 + e) 1 (λ z. omega arith)) refl)

weekend_passes : (a b : Bool) → passes (cond (a || b) NoBusinessDay Passes) ≡ not a && not b
weekend_passes true b = refl
weekend_passes false true = refl
weekend_passes false false = refl

start_passes : (a : Bool) → passes (cond a OnStartDay Passes) ≡ not a
start_passes true = refl
start_passes false = refl

-- ---- letters and version
letters : (s : List ℕ) → 5 ≤ length s
    → same_bytes (take 5 s) letters_and_version
    ≡ within (range 86 86) (get_or s 0 0) && (within (range 74 74) (get_or s 1 0) && (within (range 82 82) (get_or s 2 0) && within (range 1 1) (u16_at s 3)))
unfolding same_bytes u16_at
letters [] h = absurd (omega arith)
letters (a ∷ []) h = absurd (omega arith)
letters (a ∷ b ∷ []) h = absurd (omega arith)
letters (a ∷ b ∷ c ∷ []) h = absurd (omega arith)
letters (a ∷ b ∷ c ∷ d ∷ []) h = absurd (omega arith)
letters (a ∷ b ∷ c ∷ d ∷ e ∷ s) h = rw (one_value 86 a, one_value 74 b, one_value 82 c, one_value 1 (d * 256 + e), version d e) refl

-- ---- lists of fields
ranges_append : (n : ℕ) (s : List ℕ) (place : ℕ) (xs ys : List Field) → in_ranges n s place (xs ++ ys) ≡ in_ranges n s place xs && in_ranges n s (place + widths xs) ys
unfolding in_ranges widths
ranges_append n s place [] ys = rw native.Mathlib.Nat.add-zero refl
ranges_append n s place (f ∷ xs) ys = rw (ranges_append n s (place + width_of f) xs ys, add_assoc place (width_of f) (widths xs)) (simp and_assoc)

limits_ranges : (n : ℕ) (s : List ℕ) (first k a place : ℕ) → place ≡ first + 4 * a
    → in_ranges n s place (replicate k Limit) ≡ every limit_sound (map (λ j. u32_at s (first + 4 * j)) (from a k))
unfolding in_ranges within number_at every from
limits_ranges n s first zero a place e = refl
limits_ranges n s first (suc k) a place e = rw (from_zero (u32_at s place), limits_ranges n s first k (suc a) (place + 4) (omega arith), e) refl

-- ---- holidays
-- A holiday is in the span, above the one before it, and not the start day; the rest likewise.
holiday_order : (b x r e a : Bool) → b && (not x && (r && (e && not a))) ≡ r && ((b && e) && not (x || a))
holiday_order true true r e a = sym (rw (and_false e) (and_false r))
holiday_order true false r e a = refl
holiday_order false x r e a = sym (and_false r)

module _ (s : List ℕ) (hs : List ℕ) (sound : first_year_sound (u16_at s 5) ≡ true) where
  k : Calendar
  k = record { first_year = u16_at s 5; holidays = hs }

  day : ℕ → ℕ
  day j = u16_at s (11 + 2 * j)

  -- Whether the start day is among these.
  on_start : List ℕ → Bool
  on_start l = any (λ x. eqb x (u16_at s 7)) l

  span : span_range (u16_at s 5) ≡ range (span_start k) (day_after_span k - 1)
  unfolding k span_range span_start day_after_span
  span = rw sound refl

  in_span_lem : (v : ℕ) → within (span_range (u16_at s 5)) v ≡ in_span k v
  unfolding within in_span
  in_span_lem v = rw (span, last_before v (day_after_span k) (some_day k)) refl

  later_range : (j : ℕ) → holiday_range s (11 + 2 * suc j) ≡ range (day j + 1) (day_after_span k - 1)
  unfolding holiday_range day
  later_range j =
      let two : 11 + 2 * suc j - 2 ≡ 11 + 2 * j = omega arith in
      rw (span, lt-leb (11 + 2 * suc j) 11 (omega arith), two) refl

  -- A holiday above one that is not before the span.
  in_span_above : (x : ℕ) → span_start k ≤ x → in_span k x ≡ ltb x (day_after_span k)
  unfolding in_span
  in_span_above x h = rw (le-leb (span_start k) x h) refl

  not_before_lem : (x : ℕ) → in_span k x ≡ true → span_start k ≤ x
  unfolding in_span
  not_before_lem x e = leb-true (span_start k) x (and_left (leb (span_start k) x) (ltb x (day_after_span k)) e)

  -- The holidays from the jth on: rising, in the span, none of them the start day.
  fit : List ℕ → Bool
  fit l = every (in_span k) l && not (on_start l)

  above : (n j x : ℕ) (l : List ℕ) (rest : Bool) → span_start k ≤ day j → (span_start k ≤ x → rest ≡ rising (x ∷ l) && fit l)
      → within (range (day j + 1) (day_after_span k - 1)) x && (passes (cond (eqb x (u16_at s 7)) OnStartDay Passes) && rest) ≡ rising (day j ∷ x ∷ l) && fit (x ∷ l)
  unfolding within fit every any on_start
  above n j x l rest h ih =
      rw (rising_cons (day j) x l, start_passes (eqb x (u16_at s 7)), last_before x (day_after_span k) (some_day k))
      (le_or_lt (day j + 1) x
      (λ q. rw (le-leb (day j + 1) x q, lt-ltb (day j) x (omega arith), in_span_above x (omega arith), ih (omega arith))
      (holiday_order (ltb x (day_after_span k)) (eqb x (u16_at s 7)) (rising (x ∷ l)) (every (in_span k) l) (any (λ y. eqb y (u16_at s 7)) l)))
      (λ q. rw (lt-leb (day j + 1) x q, le-ltb (day j) x (omega arith)) refl))

  later : (n j : ℕ) → span_start k ≤ day j → in_ranges 0 s (11 + 2 * suc j) (replicate n Holiday) ≡ rising (day j ∷ map day (from (suc j) n)) && fit (map day (from (suc j) n))
  unfolding in_ranges fit every any from on_start number_at day
  later zero j h = rw (rising_short (day j ∷ []) (omega arith)) refl
  later (suc n) j h =
      let place : 11 + 2 * suc j + 2 ≡ 11 + 2 * suc (suc j) = omega arith in
      rw (later_range j, place) (above n j (day (suc j)) (map day (from (suc (suc j)) n)) (in_ranges 0 s (11 + 2 * suc (suc j)) (replicate n Holiday)) h (later n (suc j)))

  holidays_ranges : (n : ℕ) → in_ranges 0 s 11 (replicate n Holiday) ≡ rising (map day (from 0 n)) && fit (map day (from 0 n))
  unfolding in_ranges fit every any from on_start number_at day holiday_range
  holidays_ranges zero = rw (rising_short [] (omega arith)) refl
  holidays_ranges (suc n) =
      let x = day 0 in
      let l = map day (from 1 n) in
      rw (in_span_lem x, start_passes (eqb x (u16_at s 7)))
      (true_or (in_span k x)
      (λ e. rw (later n 0 (not_before_lem x e), e) (holiday_order true (eqb x (u16_at s 7)) (rising (x ∷ l)) (every (in_span k) l) (any (λ y. eqb y (u16_at s 7)) l)))
      (λ e. rw e (sym (and_false (rising (x ∷ l))))))

-- The order in which document 01 tests a header, and that of its bytes.
header_order : (h r e d w a m l : Bool) → h && r && e && (d && (w && a)) && m && true && l ≡ d && (w && (m && (h && (r && (e && a) && l))))
header_order h r e false w a m l = rw (and_false (h && r && e)) refl
header_order h r e true false a m l = rw (and_false (h && r && e)) refl
header_order h r e true true a false l = rw (and_false (h && r && e && a)) refl
header_order false r e true true a true l = refl
header_order true r e true true a true l = rw (and_true (r && e && a), and_true (r && e && a), and_assoc r e a) refl

-- ---- ranges as document 01 has them
year_range : (y : ℕ) → within (range least_first_year most_first_year) y ≡ first_year_sound y
unfolding within
year_range y = refl

members_range : (n : ℕ) → within (range 1 most_members) n ≡ members_sound n
unfolding within
members_range n = refl

count_range : (n : ℕ) → within (range 0 most_holidays) n ≡ leb n most_holidays
unfolding within
count_range n = rw (from_zero n) refl

-- ---- what stands behind the version
module _ (s : List ℕ) where
  start : ℕ
  start = u16_at s 7

  count : ℕ
  count = get_or s 10 0

  members : ℕ
  members = get_or s 9 0

  -- From the start day on.
  behind_year : Bool
  behind_year =
      within (span_range (u16_at s 5)) start
      && (passes (cond (saturday start || sunday start) NoBusinessDay Passes)
      && (within (range 1 most_members) members && (within (range 0 most_holidays) count && in_ranges 0 s 11 (replicate count Holiday ++ replicate members Limit))))

  behind_year_lem : first_year_sound (u16_at s 5) ≡ true → header_sound (header_of s) ≡ behind_year
  unfolding behind_year start count members header_sound calendar_sound day_sound business_day header_of u16s_at u32s_at day fit on_start k
  behind_year_lem e =
      let days = map (λ j. u16_at s (11 + 2 * j)) (from 0 (get_or s 10 0)) in
      let span : Calendar = record { first_year = u16_at s 5; holidays = days } in
      let first = 11 + 2 * get_or s 10 0 in
      let limits = map (λ j. u32_at s (first + 4 * j)) (from 0 (get_or s 9 0)) in
      rw (e, mapped_length (λ j. u16_at s (11 + 2 * j)) 0 (get_or s 10 0), mapped_length (λ j. u32_at s (first + 4 * j)) 0 (get_or s 9 0), eq-eqb (get_or s 9 0) (get_or s 9 0) refl)
      (rw (in_span_lem s days e (u16_at s 7), weekend_passes (saturday (u16_at s 7)) (sunday (u16_at s 7)), members_range (get_or s 9 0), count_range (get_or s 10 0))
      (rw (ranges_append 0 s 11 (replicate (get_or s 10 0) Holiday) (replicate (get_or s 9 0) Limit), widths_holidays (get_or s 10 0))
      (rw (holidays_ranges s days e (get_or s 10 0), limits_ranges 0 s first (get_or s 9 0) 0 first (omega arith))
      (header_order (leb (get_or s 10 0) most_holidays) (rising days) (every (in_span span) days) (in_span span (u16_at s 7))
      (not (saturday (u16_at s 7)) && not (sunday (u16_at s 7))) (not (any (λ x. eqb x (u16_at s 7)) days)) (members_sound (get_or s 9 0)) (every limit_sound limits)))))

  no_year : first_year_sound (u16_at s 5) ≡ false → header_sound (header_of s) ≡ false
  unfolding header_sound calendar_sound header_of
  no_year e = rw e refl

  behind_version : header_sound (header_of s) ≡ within (range least_first_year most_first_year) (u16_at s 5) && behind_year
  behind_version =
      rw (year_range (u16_at s 5)) (true_or (first_year_sound (u16_at s 5)) (λ e. rw e (behind_year_lem e)) (λ e. rw e (no_year e)))

  in_order_holds : (a b c v x y : Bool) → x ≡ y → (a && (b && (c && v))) && x ≡ a && (b && (c && (v && y)))
  in_order_holds a b c v x y e = rw e (simp and_assoc)

  fields_passed : 5 ≤ length s → same_bytes (take 5 s) letters_and_version && header_sound (header_of s) ≡ in_ranges 0 s 0 (fields_in (header_shape s))
  unfolding fields_in in_ranges number_at behind_year start count members
  fields_passed h =
      rw (letters s h)
      (in_order_holds (within (range 86 86) (get_or s 0 0)) (within (range 74 74) (get_or s 1 0)) (within (range 82 82) (get_or s 2 0)) (within (range 1 1) (u16_at s 3))
      (header_sound (header_of s)) (within (range least_first_year most_first_year) (u16_at s 5) && behind_year) behind_version)

  whole : header_length s ≡ 0 + widths (fields_in (header_shape s))
  unfolding header_length
  whole = rw (header_widths (get_or s 10 0) (get_or s 9 0)) (omega arith)

  length_least : 11 ≤ header_length s
  unfolding header_length
  length_least = omega arith

  by_length : begins_with_header s ≡ is_none (header_fault s)
  unfolding begins_with_header
  by_length =
      rw (none_is 0 s 0 (fields_in (header_shape s)) (omega arith), ← whole)
      (le_or_lt (header_length s) (length s)
      (λ h. let long : 11 ≤ length s = omega (arith, length_least) in
      rw (le-leb 11 (length s) long, le-leb (header_length s) (length s) h, and_true (same_bytes (take 5 s) letters_and_version)) (fields_passed (omega arith)))
      (λ h. rw (lt-leb (header_length s) (length s) h, and_false (leb 11 (length s) && same_bytes (take 5 s) letters_and_version)) refl))

pub header_exact : HeaderExact
header_exact s = by_length s
