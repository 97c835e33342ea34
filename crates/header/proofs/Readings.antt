-- What a header says that was read, sound or not. Assumes nothing.
use Prim.Native.Nat.{ℕ, ◌+◌, ◌*◌, ◌≤◌}
use mathlib.Core.Path.{◌≡◌, refl, sym, ◌∙◌}
use mathlib.Core.Bool.{Bool, true, false, cond, ◌&&◌}
use mathlib.Core.List.{List}
use native.Mathlib.Omega.{arith}
use Rattle.std.proofs.Common.{Option, Some, None}
use lib.Dec.{eqb, leb}
use lib.ListN.{length, take, get_or, length-map}
use borrow.Author.Tests.{leb-true}
use Rattle.arith.specs.Lists.{every, from}
use Rattle.arith.proofs.Tests.{and_left, and_right}
use Rattle.rules.specs.Days.{in_span}
use Rattle.rules.specs.Header.{Header, u32_at, u32s_at, header_length, header_of, rising, calendar_of, calendar_sound, members_sound, limit_sound, day_sound, header_sound, begins_with_header}
use Rattle.header.specs.declared.reader.ReadHeader.{ReadHeader}
use Rattle.header.specs.Journal.{header_columns, header_reading}
use Rattle.arith.proofs.Appends.{from_length}
use Rattle.header.proofs.Columns.{column}
use Rattle.header.proofs.Trips.{begun, given}

-- ---- the lists of a header
pub limits_length : (s : List ℕ) → length (header_of s).limits ≡ (header_of s).members
unfolding header_of u32s_at
limits_length s = length-map (from 0 (get_or s 9 0)) (λ j. u32_at s (11 + 2 * get_or s 10 0 + 4 * j)) ∙ from_length 0 (get_or s 9 0)

first_of_five : (a b c d e : Bool) → a && b && c && d && e ≡ true → (a ≡ true) × (c ≡ true)
first_of_five true true true d e h = (refl, refl)
first_of_five true true false d e h = (refl, h)
first_of_five true false c d e h = absurd (let z : ◌≡◌ {A = ℕ} 0 1 = cc in omega arith)
first_of_five false b c d e h = absurd (let z : ◌≡◌ {A = ℕ} 0 1 = cc in omega arith)

-- A sound header's counts.
pub counts : (h : Header) → header_sound h ≡ true → (1 ≤ h.members) × (h.members ≤ 32) × (length h.holidays ≤ 120)
unfolding header_sound calendar_sound
counts h e =
    let k = calendar_of h in
    let two = first_of_five (calendar_sound k) (day_sound k h.start_day) (members_sound h.members) (eqb (length h.limits) h.members) (every limit_sound h.limits) e in
    let three = first_of_five (leb 2020 h.first_year) (leb h.first_year 2094) (leb (length h.holidays) 120) (rising h.holidays) (every (in_span k) h.holidays) two.0 in
    let n = h.members in
    (leb-true 1 n (and_left (leb 1 n) (leb n 32) two.1), leb-true n 32 (and_right (leb 1 n) (leb n 32) two.1), leb-true (length h.holidays) 120 three.1)

-- ---- a reading
pub none_read : (s : List ℕ) → None ≡ header_reading s → begins_with_header s ≡ false
unfolding header_reading
none_read s e = go (begins_with_header s) e
  where
    go : (b : Bool) → ◌≡◌ {A = Option ReadHeader} None (cond b (Some (record { length = header_length s; header = header_columns (header_of s) })) None) → b ≡ false
    go true e = absurd (let z : ◌≡◌ {A = ℕ} 0 1 = cc in omega arith)
    go false e = refl

module _ (s : List ℕ) (r : ReadHeader) (e : Some r ≡ header_reading s) where
  pub begins : begins_with_header s ≡ true
  begins = (given s r (sym e)).0

  pub as_read : r ≡ record { length = header_length s; header = header_columns (header_of s) }
  as_read = (given s r (sym e)).1

  few : (1 ≤ (header_of s).members) × ((header_of s).members ≤ 32) × (length (header_of s).holidays ≤ 120)
  few = counts (header_of s) (begun s begins).2

  pub few_holidays : r.header.holiday_count ≤ 120
  few_holidays = let m = few in rw as_read m.2

  pub few_members : r.header.members ≤ 32
  few_members = let m = few in rw as_read m.1

  pub holiday_most : length (take r.header.holiday_count r.header.holidays) ≤ 120
  holiday_most = let m = few in rw (as_read, column 120 (header_of s).holidays) m.2

  pub limit_most : length (take r.header.members r.header.limits) ≤ 32
  limit_most = let m = few in rw as_read (rw (← limits_length s, column 32 (header_of s).limits, limits_length s) m.1)

  -- The header by its parts; each member has a limit.
  pub as_listed :
      let h = r.header in
      let limits = take h.members h.limits in
      record { first_year = h.first_year; start_day = h.start_day.0; members = length limits; holidays = take h.holiday_count h.holidays; limits = limits } ≡ header_of s
  as_listed = rw as_read (rw (column 120 (header_of s).holidays, ← limits_length s, column 32 (header_of s).limits))
