-- What reading a header to a row and writing one from a row answer, by the tests that lead to it. Assumes nothing.
use Prim.Native.Nat.{ℕ, zero, suc, ◌+◌, ◌-◌, ◌≤◌, ◌<◌}
use mathlib.Core.Bool.{true, false}
use mathlib.Core.List.{List, [], ◌∷◌, ◌++◌, map}
use mathlib.Core.Path.{◌≡◌, refl, sym, ap, ◌∙◌}
use native.Mathlib.Omega.{arith}
use borrow.Author.Tests.{lt-ltb, le-ltb, lt-leb}
use lib.Dec.{leb}
use lib.ListN.{length, get_or, set, take, drop, replicate, length-drop}
use lib.Seq.{length-take-le, get_or-take, get_or-drop}
use Rattle.std.specs.Prelude.{Result, Ok, Err}
use Rattle.arith.specs.Columns.{padded}
use Rattle.arith.specs.Lists.{from}
use Rattle.arith.specs.Lists.{over}
use Rattle.arith.proofs.Beside.{over_then}
use Rattle.arith.proofs.Runs.{length_run, run_of}
use Rattle.arith.proofs.Tests.{and_false}
use Rattle.arith.proofs.Writes.{stored}
use Rattle.rules.specs.declared.refusal.Refusal.TheVariants.{TableUnsound, HeaderUnsound}
use Rattle.rules.specs.Answers.{Outcome}
use Rattle.rules.specs.Ranges.{most_holidays, most_members}
use Rattle.rules.specs.Header.{Header, header_length, header_of, header_sound, begins_with_header, write_header_spec}
use Rattle.header.specs.Journal.{header_from, header_columns}
use Rattle.header.specs.declared.journal.JournalHeader.{JournalHeader}
use Rattle.header.proofs.Headers.{holidays_many, members_wrong, columns_back, write_header_unsound}
use Rattle.number_fields.specs.HeaderFields.{header_fields, members_field, holiday_count_field, limits_field, with_header, numbers_at, header_in, read_header_fields, write_header_fields}
use Rattle.rules.specs.declared.refusal.Refusal.{Refusal}

zeros_past : (n k : ℕ) → drop {A = ℕ} k (replicate n 0) ≡ replicate (n - k) 0
zeros_past zero zero = refl
zeros_past zero (suc k) = let none : 0 - suc k ≡ 0 = omega arith in rw none
zeros_past (suc n) zero = let all : suc n - 0 ≡ suc n = omega arith in rw all
zeros_past (suc n) (suc k) = let less : suc n - suc k ≡ n - k = omega arith in rw less (zeros_past n k)

pub length_numbers : (f : List ℕ) (i n : ℕ) → length (numbers_at f i n) ≡ n
unfolding numbers_at
length_numbers f i n = length_run (λ j. get_or f (i + j) 0) n

-- Numbers of a row in the first places of a column of zeros.
pub column_read : (n : ℕ) (f : List ℕ) (i k : ℕ) → k ≤ n → i + k ≤ length f → take (i + k - i) (drop i f) ++ drop k (replicate n 0) ≡ padded n (numbers_at f i k)
unfolding padded numbers_at
column_read n f i k h l =
    let cut : i + k - i ≡ k = omega arith in
    let sized : length (take k (drop i f)) ≡ k = length-take-le k (drop i f) (rw (length-drop i f) (omega arith)) in
    let read : map (λ j. get_or f (i + j) 0) (from 0 k) ≡ take k (drop i f)
    = rw sized at (run_of (λ j. get_or f (i + j) 0) (take k (drop i f)) 0 (λ j g. sym (get_or-take k (drop i f) j 0 (rw sized at g) ∙ get_or-drop i f j 0))) in
    rw (cut, read, sized, zeros_past n k) refl

-- A header's four numbers, then its holidays, then its limits.
pub header_put : (h : Header) (row a b : List ℕ) → header_fields ≤ length row
    → a ≡ over 4 h.holidays (set (set (set (set row 0 h.first_year) 1 h.start_day) 2 h.members) 3 (length h.holidays))
    → b ≡ over limits_field h.limits a → b ≡ with_header h row
unfolding with_header
header_put h row a b l e d =
    let four = h.first_year ∷ h.start_day ∷ h.members ∷ length h.holidays ∷ [] in
    let front = stored four row 0 (omega arith) in
    let whole : a ≡ over 0 (four ++ h.holidays) row = over_then 4 four h.holidays row _ a front e refl (omega arith) in
    d ∙ rw whole refl

-- ---- reading
module _ (s row : List ℕ) where
  pub read_header_short : length row < header_fields → record { answer = Err TableUnsound; after = row } ≡ read_header_fields s row
  unfolding read_header_fields
  read_header_short h = rw (lt-ltb (length row) header_fields h) refl

  module _ (h : header_fields ≤ length row) where
    pub read_header_none : begins_with_header s ≡ false → record { answer = Err HeaderUnsound; after = row } ≡ read_header_fields s row
    unfolding read_header_fields
    read_header_none b = rw (le-ltb (length row) header_fields h, b) refl

    pub read_header_whole : begins_with_header s ≡ true → (a : Result ℕ Refusal) (after : List ℕ) → a ≡ Ok (header_length s) → after ≡ with_header (header_of s) row
        → record { answer = a; after = after } ≡ read_header_fields s row
    unfolding read_header_fields
    read_header_whole b a after c d = rw (le-ltb (length row) header_fields h, b, c, d) refl

-- ---- writing
module _ (row out : List ℕ) where
  pub write_header_row_short : length row < header_fields → record { answer = Err TableUnsound; after = out } ≡ write_header_fields row out
  unfolding write_header_fields
  write_header_row_short h = rw (lt-ltb (length row) header_fields h) refl

  module _ (h : header_fields ≤ length row) where
    pub write_header_by : write_header_fields row out ≡ write_header_spec (header_in row) out
    unfolding write_header_fields
    write_header_by = rw (le-ltb (length row) header_fields h) refl

    unsound : header_sound (header_in row) ≡ false → record { answer = Err HeaderUnsound; after = out } ≡ write_header_fields row out
    unsound e = write_header_unsound (header_in row) out e ∙ sym write_header_by

    pub write_many_members : most_members < get_or row members_field 0 → record { answer = Err HeaderUnsound; after = out } ≡ write_header_fields row out
    write_many_members m = unsound (members_wrong (header_in row) (rw (lt-leb (get_or row members_field 0) most_members m, and_false (leb 1 (get_or row members_field 0))) refl))

    pub write_many_holidays : most_holidays < get_or row holiday_count_field 0 → record { answer = Err HeaderUnsound; after = out } ≡ write_header_fields row out
    write_many_holidays m = unsound (holidays_many (header_in row) (rw (length_numbers row 4 (get_or row holiday_count_field 0)) m))

    pub columns_in : header_from (header_columns (header_in row)) ≡ header_in row
    columns_in = columns_back (header_in row) (length_numbers row limits_field (get_or row members_field 0))

    pub write_header_row : {c : JournalHeader} {o : Outcome (List ℕ)} → c ≡ header_columns (header_in row) → o ≡ write_header_spec (header_from c) out → o ≡ write_header_fields row out
    write_header_row {c} e w = w ∙ (ap (λ x. write_header_spec x out) (ap header_from e ∙ columns_in) ∙ sym write_header_by)
