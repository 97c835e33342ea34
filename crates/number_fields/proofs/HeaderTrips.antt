-- Headers to numbers and back, and headers read to a row and written from it. Assumes nothing.
use Prim.Native.Nat.{ℕ, ◌+◌, ◌≤◌, ◌<◌}
use mathlib.Core.Bool.{true}
use mathlib.Core.List.{List, [], ◌∷◌, ◌++◌}
use mathlib.Core.Path.{◌≡◌, refl, sym, ap, ◌∙◌}
use native.Mathlib.Omega.{arith}
use lib.ListN.{length, get_or, take, drop, length-drop, take-append-drop, get_or-append}
use lib.Seq.{length-take-le, get_or-append-add, get_or-take, get_or-drop, drop-drop}
use Rattle.std.specs.Prelude.{Ok}
use Rattle.arith.specs.Lists.{from, over}
use Rattle.arith.proofs.Overs.{over_length, over_inside, over_outside}
use Rattle.arith.proofs.Runs.{run_of}
use Rattle.arith.proofs.Tests.{le_or_lt, true_or}
use Rattle.arith.proofs.Writes.{over_front, over_more}
use Rattle.rules.specs.Answers.{Outcome, reply_of}
use Rattle.rules.specs.Ranges.{most_holidays, most_members}
use Rattle.rules.specs.Header.{Header, header_length, header_of, header_sound, begins_with_header, write_header_spec}
use Rattle.header.specs.declared.reader.ReadHeader.{ReadHeader}
use Rattle.header.specs.Journal.{firsts, header_from, header_columns}
use Rattle.header.proofs.Headers.{take_firsts, columns_read, reading_sound}
use Rattle.header.proofs.Readings.{counts, limits_length}
use Rattle.header.proofs.Trips as header
use Rattle.number_fields.specs.HeaderFields.{header_fields, members_field, holiday_count_field, holidays_field, limits_field, with_header, numbers_at, header_in, read_header_fields}
use Rattle.number_fields.specs.Trips.{NumbersGiveHeader, HeaderGivesNumbers, HeaderReadIsWritten, HeaderWrittenIsRead}
use Rattle.number_fields.proofs.HeaderOutcomes.{length_numbers, read_header_short, read_header_none, read_header_whole, write_header_row_short, write_header_by, columns_in}
use Rattle.number_fields.proofs.RecordTrips.{refused, over_self}

-- ---- a header's numbers give the header
module _ (h : Header) (row : List ℕ) (long : header_fields ≤ length row) (days : length h.holidays ≤ most_holidays) (sized : length h.limits ≡ h.members) (few : h.members ≤ most_members) where
  front : List ℕ
  front = h.first_year ∷ h.start_day ∷ h.members ∷ length h.holidays ∷ h.holidays

  inner : List ℕ
  inner = over 0 front row

  inner_long : length inner ≡ length row
  unfolding inner front
  inner_long = over_length 0 front row (omega arith)

  fits : limits_field + length h.limits ≤ length inner
  fits = omega (arith, inner_long)

  before_limits : (i : ℕ) → i < limits_field → get_or (with_header h row) i 0 ≡ get_or inner i 0
  unfolding with_header inner front
  before_limits i l = over_outside limits_field h.limits inner fits i 0 (λ m. absurd (omega arith))

  in_front : (i : ℕ) → i < 4 + length h.holidays → i < length front
  unfolding front
  in_front i l = omega arith

  at_front : (i : ℕ) → i < 4 + length h.holidays → get_or (with_header h row) i 0 ≡ get_or front i 0
  unfolding inner
  at_front i l =
      before_limits i (omega arith) ∙ (ap (λ x. get_or x i 0) (over_front front row) ∙ get_or-append front (drop (length front) row) 0 i (in_front i l))

  holidays_back : numbers_at (with_header h row) holidays_field (length h.holidays) ≡ h.holidays
  unfolding numbers_at front
  holidays_back =
      run_of (λ j. get_or (with_header h row) (holidays_field + j) 0) h.holidays 0
      (λ i l. at_front (4 + i) (omega arith) ∙ get_or-append-add (h.first_year ∷ h.start_day ∷ h.members ∷ length h.holidays ∷ []) h.holidays i 0)

  limits_back : numbers_at (with_header h row) limits_field (length h.limits) ≡ h.limits
  unfolding numbers_at with_header inner front
  limits_back =
      run_of (λ j. get_or (with_header h row) (limits_field + j) 0) h.limits 0 (λ i l. over_inside limits_field h.limits inner fits i 0 l)

  with_long : length (with_header h row) ≡ length row
  unfolding with_header inner front
  with_long = over_length limits_field h.limits inner fits ∙ inner_long

  header_back : header_in (with_header h row) ≡ h
  unfolding front
  header_back =
      let f = with_header h row in
      let members : get_or f members_field 0 ≡ h.members = at_front 2 (omega arith) in
      let days : numbers_at f holidays_field (get_or f holiday_count_field 0) ≡ h.holidays = ap (numbers_at f holidays_field) (at_front 3 (omega arith)) ∙ holidays_back in
      let limits : numbers_at f limits_field (get_or f members_field 0) ≡ h.limits = ap (numbers_at f limits_field) (members ∙ sym sized) ∙ limits_back in
      λ i. record { first_year = at_front 0 (omega arith) i; start_day = at_front 1 (omega arith) i; members = members i; holidays = days i; limits = limits i }

pub numbers_give_header : NumbersGiveHeader
numbers_give_header = header_back

-- ---- a row has the numbers of its header
numbers_are : (f : List ℕ) (i n : ℕ) → i + n ≤ length f → numbers_at f i n ≡ take n (drop i f)
unfolding numbers_at
numbers_are f i n h =
    let sized : length (take n (drop i f)) ≡ n = length-take-le n (drop i f) (rw (length-drop i f) (omega arith)) in
    rw sized at (run_of (λ j. get_or f (i + j) 0) (take n (drop i f)) 0 (λ j l. sym (get_or-take n (drop i f) j 0 (rw sized at l) ∙ get_or-drop i f j 0)))

numbers_over : (f : List ℕ) (i n : ℕ) → i + n ≤ length f → over i (numbers_at f i n) f ≡ f
unfolding over
numbers_over f i n h =
    let part = drop i f in
    let rest : take n part ++ drop (i + n) f ≡ part = rw (← drop-drop n i f) (take-append-drop n part) in
    rw (length_numbers f i n, numbers_are f i n h, rest) (take-append-drop i f)

first_four : (f : List ℕ) → 4 ≤ length f → take 4 f ≡ get_or f 0 0 ∷ get_or f 1 0 ∷ get_or f 2 0 ∷ get_or f 3 0 ∷ []
unfolding firsts from
first_four f h = take_firsts 4 f h

pub header_gives_numbers : HeaderGivesNumbers
unfolding with_header
header_gives_numbers row long days few =
    let n = get_or row holiday_count_field 0 in
    let four : List ℕ = get_or row 0 0 ∷ get_or row 1 0 ∷ get_or row 2 0 ∷ get_or row 3 0 ∷ [] in
    let front : over 0 four row ≡ row = over_self four row (first_four row (omega arith)) in
    let inner : over 0 (four ++ numbers_at row 4 n) row ≡ row =
    sym (over_more 4 four (numbers_at row 4 n) row refl) ∙ rw front (numbers_over row 4 n (omega arith)) in
    rw (length_numbers row 4 n, inner) (numbers_over row limits_field (get_or row members_field 0) (omega arith))

-- ---- what an accepted call tells
record HeaderRead (s row : List ℕ) (k : ℕ) (after : List ℕ) : Type 0 where
  long : header_fields ≤ length row
  begins : begins_with_header s ≡ true
  size : k ≡ header_length s
  put : after ≡ with_header (header_of s) row

header_read : (s row : List ℕ) (k : ℕ) (after : List ℕ) → record { answer = Ok k; after = after } ≡ read_header_fields s row → HeaderRead s row k after
header_read s row k after w =
    le_or_lt header_fields (length row)
    (λ h. true_or (begins_with_header s) (λ b. whole h b) (λ b. refused (w ∙ sym (read_header_none s row h b)) (λ z. omega arith)))
    (λ h. refused (w ∙ sym (read_header_short s row h)) (λ z. omega arith))
  where
    whole : header_fields ≤ length row → begins_with_header s ≡ true → HeaderRead s row k after
    whole h b =
        let same = w ∙ sym (read_header_whole s row h b (Ok (header_length s)) (with_header (header_of s) row) refl refl) in
        record { long = h; begins = b; size = ap (λ (o : Outcome (List ℕ)). (reply_of o.answer).detail) same; put = ap (λ (o : Outcome (List ℕ)). o.after) same }

-- ---- the promises
pub header_read_is_written : HeaderReadIsWritten
header_read_is_written s row out k after b room w =
    let r = header_read s row k after w in
    let h = header_of s in
    let most = counts h (header.begun s r.begins).2 in
    let back : header_in after ≡ h = rw r.put (numbers_give_header h row r.long most.2 (limits_length s) most.1) in
    let enough = r.long in
    let long : header_fields ≤ length after = rw r.put (rw (with_long h row r.long most.2 (limits_length s) most.1) enough) in
    let read = sym (reading_sound s k r.begins r.size) in
    write_header_by after out long ∙ rw (back, ← columns_read s) (header.read_is_written s out k (header_columns h) b read room)

pub header_written_is_read : HeaderWrittenIsRead
header_written_is_read row out other k after room w =
    le_or_lt header_fields (length row) (λ h. long h (w ∙ write_header_by row out h)) (λ h. refused (w ∙ sym (write_header_row_short row out h)) (λ z. omega arith))
  where
    long : header_fields ≤ length row → record { answer = Ok k; after = after } ≡ write_header_spec (header_in row) out
        → (with_header (header_in row) row ≡ row) × (read_header_fields after other ≡ record { answer = Ok k; after = with_header (header_in row) other })
    long h x =
        let columns = header_columns (header_in row) in
        let same : header_from columns ≡ header_in row = columns_in row out h in
        let read = header.written_is_read columns out k after (rw same x) in
        let reply_of = header.given after (record { length = k; header = header_columns (header_from columns) }) read in
        let back : header_of after ≡ header_in row = sym (columns_read after) ∙ (ap (λ (r : ReadHeader). header_from r.header) (sym reply_of.1) ∙ (ap (λ y. header_from (header_columns y)) same ∙ same)) in
        let sound : header_sound (header_in row) ≡ true = rw (← back) (header.begun after reply_of.0).2 in
        let most = counts (header_in row) sound in
        let days : get_or row holiday_count_field 0 ≤ most_holidays = rw (length_numbers row holidays_field (get_or row holiday_count_field 0)) at most.2 in
        let put : with_header (header_of after) other ≡ with_header (header_in row) other = ap (λ y. with_header y other) back in
        (header_gives_numbers row h days most.1, sym (read_header_whole after other room reply_of.0 (Ok k) (with_header (header_in row) other) (ap (λ (r : ReadHeader). Ok r.length) reply_of.1) (sym put)))
