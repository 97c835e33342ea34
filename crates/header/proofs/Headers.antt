-- What the reader and the writer of headers need. Assumes nothing.
use Prim.Native.Nat.{ℕ, zero, suc, ◌+◌, ◌*◌, ◌≤◌, ◌<◌}
use mathlib.Core.Bool.{Bool, true, false, ◌&&◌}
use mathlib.Core.List.{List, [], ◌∷◌, flat_map}
use mathlib.Core.Path.{◌≡◌, refl, sym, ap, ◌∙◌}
use native.Mathlib.Omega.{arith}
use Rattle.std.proofs.Common.{Some, None, ◌↔◌, ◌≤◌, IsTrue, EachIndex, slice_index}
use Rattle.std.specs.Cmp.Lexicographic.{pointwise}
use Rattle.arith.proofs.Alls.{every_place}
use Rattle.rules.specs.Ranges.{most_limit}
use borrow.Author.Tests.{lt-ltb, le-ltb, le-leb, lt-leb, eq-eqb, eqb-true, leb-true}
use lib.Dec.{eqb, leb}
use lib.ListN.{length, get_or, take, length-append}
use lib.Seq.{length-take-le, get_or-take}
use Rattle.std.specs.Prelude.{Ok, Err}
use Rattle.arith.specs.Lists.{every, over}
use Rattle.arith.proofs.Tests.{never, le_or_lt, same_test, and_left, and_right, and_false, and_true}
use Rattle.rules.specs.declared.refusal.Refusal.TheVariants.{TableUnsound, HeaderUnsound}
use Rattle.rules.specs.Header.{Header, u16_at, u32_at, u16_bytes, u32_bytes, u16s_at, u32s_at, letters_and_version, same_bytes, header_of, header_length, begins_with_header, calendar_of}
use Rattle.rules.specs.Header.{calendar_sound, members_sound, limit_sound, day_sound, header_sound, header_bytes, write_header_spec}
use Rattle.arith.specs.Columns.{padded}
use Rattle.arith.proofs.Padded.{padded_at}
use Rattle.header.specs.Journal.{firsts, days_sound, header_from, header_columns, header_reading}
use Rattle.big_endian.proofs.Numbers.{u16_wide, u32_wide}
use Rattle.arith.proofs.Appends.{flat_length}
use Rattle.arith.proofs.Runs.{length_run, run_of}
use Rattle.header.specs.declared.journal.JournalHeader.{JournalHeader}

-- ---- the first numbers of a column
pub length_firsts : (n : ℕ) (l : List ℕ) → length (firsts n l) ≡ n
unfolding firsts
length_firsts n l = length_run (λ i. get_or l i 0) n

pub take_firsts : (n : ℕ) (l : List ℕ) → n ≤ length l → take n l ≡ firsts n l
unfolding firsts
take_firsts n l h =
    let sized : length (take n l) ≡ n = length-take-le n l h in
    sym (rw sized at (run_of (λ i. get_or l i 0) (take n l) 0 (λ i g. sym (get_or-take n l i 0 (rw sized at g)))))

-- ---- which headers are sound, by the tests that lead to it
module _ (h : Header) where
  pub holidays_many : 120 < length h.holidays → header_sound h ≡ false
  unfolding header_sound calendar_sound
  holidays_many l = rw (lt-leb (length h.holidays) 120 l, and_false (leb 2020 h.first_year && leb h.first_year 2094)) refl

  pub members_wrong : members_sound h.members ≡ false → header_sound h ≡ false
  unfolding header_sound
  members_wrong m = rw (m, and_false (calendar_sound (calendar_of h) && day_sound (calendar_of h) h.start_day)) refl

  pub header_judged : members_sound h.members ≡ true → length h.limits ≡ h.members →
      days_sound (calendar_of h) h.start_day && every limit_sound h.limits ≡ header_sound h
  unfolding header_sound
  header_judged m l = rw (m, eq-eqb (length h.limits) h.members l, and_true, and_true) refl

-- ---- limits
every_at : (p : ℕ → Bool) (l : List ℕ) → every p l ≡ true → (i : ℕ) → i < length l → p (get_or l i 0) ≡ true
unfolding every
every_at p [] e i h = absurd (omega arith)
every_at p (x ∷ l) e zero h = and_left (p x) (every p l) e
every_at p (x ∷ l) e (suc i) h = every_at p l (and_right (p x) (every p l) e) i (omega arith)

pub limits_told : (l : List ℕ) (r : Bool) → (IsTrue r ↔ EachIndex l (λ k. slice_index l k ≤ 100000)) → r ≡ every limit_sound l
limits_told l r told =
    same_test r (every limit_sound l) (λ e. every_place limit_sound 0 l (λ i h. le-leb (get_or l i 0) most_limit (told.0 e i h)))
    (λ e. told.1 (λ i h. leb-true (get_or l i 0) most_limit (every_at limit_sound l e i h)))

-- ---- the letters
same_refl : (a : List ℕ) → same_bytes a a ≡ true
unfolding same_bytes
same_refl [] = refl
same_refl (x ∷ a) = rw (eq-eqb x x refl) (same_refl a)

pub same_true : (a b : List ℕ) → same_bytes a b ≡ true → a ≡ b
unfolding same_bytes
same_true [] [] e = refl
same_true [] (y ∷ b) e = never (sym e)
same_true (x ∷ a) [] e = never (sym e)
same_true (x ∷ a) (y ∷ b) e =
    let first : x ≡ y = eqb-true x y (and_left (eqb x y) (same_bytes a b) e) in
    rw (first, same_true a b (and_right (eqb x y) (same_bytes a b) e)) refl

eqb_turned : (x y : ℕ) → eqb x y ≡ eqb y x
eqb_turned x y = same_test (eqb x y) (eqb y x) (λ e. eq-eqb y x (sym (eqb-true x y e))) (λ e. eq-eqb x y (sym (eqb-true y x e)))

pub same_letters : (a b : List ℕ) → pointwise eqb b a ≡ same_bytes a b
unfolding same_bytes
same_letters [] [] = refl
same_letters [] (y ∷ b) = refl
same_letters (x ∷ a) [] = refl
same_letters (x ∷ a) (y ∷ b) = rw (eqb_turned y x, same_letters a b)

pub same_bytes_lem : (r : Bool) (a b : List ℕ) → (r ≡ true → a ≡ b) → (a ≡ b → r ≡ true) → r ≡ same_bytes a b
same_bytes_lem r a b f g = same_test r (same_bytes a b) (λ e. rw (f e) (same_refl b)) (λ e. g (same_true a b e))

-- ---- a header's lists
pub length_u16s : (s : List ℕ) (i n : ℕ) → length (u16s_at s i n) ≡ n
unfolding u16s_at
length_u16s s i n = length_run (λ j. u16_at s (i + 2 * j)) n

pub length_u32s : (s : List ℕ) (i n : ℕ) → length (u32s_at s i n) ≡ n
unfolding u32s_at
length_u32s s i n = length_run (λ j. u32_at s (i + 4 * j)) n

firsts_padded : (n : ℕ) (l : List ℕ) → firsts (length l) (padded n l) ≡ l
unfolding firsts
firsts_padded n l = run_of (λ i. get_or (padded n l) i 0) l 0 (padded_at n l)

-- A header in columns is the header.
pub columns_back : (h : Header) → length h.limits ≡ h.members → header_from (header_columns h) ≡ h
columns_back h l = λ i. record { first_year = h.first_year; start_day = h.start_day; members = h.members; holidays = firsts_padded 120 h.holidays i; limits = limits i }
  where
    limits : firsts h.members (padded 32 h.limits) ≡ h.limits
    limits = rw (← l) (firsts_padded 32 h.limits)

-- ---- whether bytes begin with a header, by the tests that lead to it
module _ (s : List ℕ) where
  pub begins_short : length s < 11 → begins_with_header s ≡ false
  unfolding begins_with_header
  begins_short h = rw (lt-leb 11 (length s) h) refl

  pub begins_other : same_bytes (take 5 s) letters_and_version ≡ false → begins_with_header s ≡ false
  unfolding begins_with_header
  begins_other e = rw (e, and_false (leb 11 (length s))) refl

  pub begins_cut : length s < header_length s → begins_with_header s ≡ false
  unfolding begins_with_header
  begins_cut h = rw (lt-leb (header_length s) (length s) h, and_false (leb 11 (length s) && same_bytes (take 5 s) letters_and_version)) refl

  begins_unsound : header_sound (header_of s) ≡ false → begins_with_header s ≡ false
  unfolding begins_with_header
  begins_unsound e = rw (e, and_false (leb 11 (length s) && same_bytes (take 5 s) letters_and_version && leb (header_length s) (length s))) refl

  pub begins_members : 32 < get_or s 9 0 → begins_with_header s ≡ false
  unfolding header_of
  begins_members h = begins_unsound (members_wrong (header_of s) (rw (lt-leb (get_or s 9 0) 32 h, and_false (leb 1 (get_or s 9 0))) refl))

  pub begins_holidays : 120 < get_or s 10 0 → begins_with_header s ≡ false
  unfolding header_of
  begins_holidays h = begins_unsound (holidays_many (header_of s) (rw (length_u16s s 11 (get_or s 10 0)) h))

  begins_judged : 11 ≤ length s → same_bytes (take 5 s) letters_and_version ≡ true → header_length s ≤ length s → header_sound (header_of s) ≡ begins_with_header s
  unfolding begins_with_header
  begins_judged a b d = rw (le-leb 11 (length s) a, b, le-leb (header_length s) (length s) d) refl

  -- the fields in columns are the header
  pub columns_read : header_from (header_columns (header_of s)) ≡ header_of s
  unfolding header_of
  columns_read = columns_back (header_of s) (length_u32s s (11 + 2 * get_or s 10 0) (get_or s 9 0))

  -- by a test of the fields in columns
  pub begins_by : {h : JournalHeader} {b v : Bool} → 11 ≤ length s → same_bytes (take 5 s) letters_and_version ≡ true → header_length s ≤ length s → h ≡ header_columns (header_of s)
      → b ≡ header_sound (header_from h) → b ≡ v → begins_with_header s ≡ v
  begins_by {h} x y z f t e =
      let columns : header_from h ≡ header_of s = ap header_from f ∙ columns_read in
      sym (begins_judged x y z) ∙ (ap header_sound (sym columns) ∙ (sym t ∙ e))

  pub reading_unsound : begins_with_header s ≡ false → None ≡ header_reading s
  unfolding header_reading
  reading_unsound e = rw e refl

  pub reading_sound : (n : ℕ) → begins_with_header s ≡ true → n ≡ header_length s → Some (record { length = n; header = header_columns (header_of s) }) ≡ header_reading s
  unfolding header_reading
  reading_sound n e l = rw (e, l) refl

-- ---- writing
module _ (h : JournalHeader) where
  pub length_holidays : length (flat_map u16_bytes (firsts h.holiday_count h.holidays)) ≡ 2 * h.holiday_count
  length_holidays = let days = firsts h.holiday_count h.holidays in omega (arith, flat_length 2 u16_bytes u16_wide days, length_firsts h.holiday_count h.holidays)

  length_limits : length (flat_map u32_bytes (firsts h.members h.limits)) ≡ 4 * h.members
  length_limits = omega (arith, flat_length 4 u32_bytes u32_wide (firsts h.members h.limits), length_firsts h.members h.limits)

  pub length_header : length (header_bytes (header_from h)) ≡ 11 + 2 * h.holiday_count + 4 * h.members
  unfolding header_bytes u16_bytes
  length_header = simp (length-append, length_holidays, length_limits) (omega arith)

-- a sound header's counts fit their bytes
module _ (h : JournalHeader) (t : header_sound (header_from h) ≡ true) where
  pub members_fit : h.members ≤ 32
  members_fit =
      le_or_lt h.members 32 (λ l. l)
      (λ l. never (sym t ∙ members_wrong (header_from h) (rw (lt-leb h.members 32 l, and_false (leb 1 h.members)) refl)))

  pub holidays_fit : h.holiday_count ≤ 120
  holidays_fit = le_or_lt h.holiday_count 120 (λ l. l) (λ l. never (sym t ∙ holidays_many (header_from h) (rw (length_firsts h.holiday_count h.holidays) l)))

module _ (h : Header) (out : List ℕ) where
  pub write_header_unsound : header_sound h ≡ false → record { answer = Err HeaderUnsound; after = out } ≡ write_header_spec h out
  unfolding write_header_spec
  write_header_unsound t = rw t refl

  pub write_header_short : header_sound h ≡ true → length out < length (header_bytes h) → record { answer = Err TableUnsound; after = out } ≡ write_header_spec h out
  unfolding write_header_spec
  write_header_short t l = rw (t, lt-ltb (length out) (length (header_bytes h)) l) refl

  pub write_header_whole : header_sound h ≡ true → (k : ℕ) (after : List ℕ) → k ≡ length (header_bytes h) → length (header_bytes h) ≤ length out → after ≡ over 0 (header_bytes h) out
      → record { answer = Ok k; after = after } ≡ write_header_spec h out
  unfolding write_header_spec
  write_header_whole t k after a l w = rw (t, le-ltb (length out) (length (header_bytes h)) l, a, w) refl
