-- Events and headers to numbers and back, and the round trips that the functions promise.
use Rattle.std.specs.Prelude.{ℕ, ◌≤◌, List, ◌++◌, ◌≡◌, T, ltb, length, take, get_or, Some, Ok}
use Rattle.arith.specs.Lists.{every, over}
use Rattle.rules.specs.declared.event.Event.{Event}
use Rattle.rules.specs.declared.event.Leg.{Leg}
use Rattle.rules.specs.Ranges.{most_holidays, most_legs, most_members}
use Rattle.rules.specs.Header.{Header}
use Rattle.record_kinds.specs.Numbers.{leg_count}
use Rattle.number_fields.specs.HeaderFields.{header_fields, members_field, holiday_count_field, with_header, header_in, read_header_fields, write_header_fields}
use Rattle.rules.specs.Records.{numbers_of}
use Rattle.number_fields.specs.RecordFields.{record_fields, event_in, legs_in, read_fields, write_fields}

-- ---- an event and a row
-- An event's numbers, whatever stands past them, give the event and its legs.
abbrev pub NumbersGiveEvent : Type 0
NumbersGiveEvent =
    (e : Event) (legs : List Leg) (rest : List ℕ) → length legs ≡ leg_count e → leg_count e ≤ most_legs
    → (event_in (numbers_of e legs ++ rest) ≡ Some e) × (legs_in (numbers_of e legs ++ rest) ≡ legs)

-- A row that gives an event begins with its numbers.
abbrev pub EventGivesNumbers : Type 0
EventGivesNumbers =
    (e : Event) (row : List ℕ) → record_fields ≤ length row → event_in row ≡ Some e
    → take (length (numbers_of e (legs_in row))) row ≡ numbers_of e (legs_in row)

-- ---- a header and a row
abbrev pub NumbersGiveHeader : Type 0
NumbersGiveHeader =
    (h : Header) (row : List ℕ) → header_fields ≤ length row → length h.holidays ≤ most_holidays → length h.limits ≡ h.members → h.members ≤ most_members
    → header_in (with_header h row) ≡ h

abbrev pub HeaderGivesNumbers : Type 0
HeaderGivesNumbers =
    (row : List ℕ) → header_fields ≤ length row → get_or row holiday_count_field 0 ≤ most_holidays → get_or row members_field 0 ≤ most_members
    → with_header (header_in row) row ≡ row

-- ---- what the functions promise
-- What read_record_fields put in a row, write_record_fields writes as the same bytes.
abbrev pub ReadIsWritten : Type 0
ReadIsWritten =
    (n : ℕ) (s row out : List ℕ) (k : ℕ) (after : List ℕ) → T (every (λ b. ltb b 256) s) → length s ≤ length out
    → record { answer = Ok k; after = after } ≡ read_fields n s row
    → write_fields n after out ≡ record { answer = Ok (length s); after = over 0 s out }

-- What write_record_fields wrote from a row, read_record_fields reads into any row: the numbers of the event that the first row says,
-- as they stood there, over the other's front. The answer is how many they are.
abbrev pub WrittenIsRead : Type 0
WrittenIsRead =
    (n : ℕ) (row out other : List ℕ) (k : ℕ) (after : List ℕ) → record_fields ≤ length other → record { answer = Ok k; after = after } ≡ write_fields n row out
    → (e : Event)
    × ((event_in row ≡ Some e)
    × ((take (length (numbers_of e (legs_in row))) row ≡ numbers_of e (legs_in row))
    × (read_fields n (take k after) other ≡ record { answer = Ok (length (numbers_of e (legs_in row))); after = over 0 (numbers_of e (legs_in row)) other })))

-- The same of a header.
abbrev pub HeaderReadIsWritten : Type 0
HeaderReadIsWritten =
    (s row out : List ℕ) (k : ℕ) (after : List ℕ) → T (every (λ b. ltb b 256) s) → k ≤ length out
    → record { answer = Ok k; after = after } ≡ read_header_fields s row
    → write_header_fields after out ≡ record { answer = Ok k; after = over 0 (take k s) out }

-- The numbers of a header that was written stand in the row in their places, and are read into the same places of any row.
abbrev pub HeaderWrittenIsRead : Type 0
HeaderWrittenIsRead =
    (row out other : List ℕ) (k : ℕ) (after : List ℕ) → header_fields ≤ length other → record { answer = Ok k; after = after } ≡ write_header_fields row out
    → (with_header (header_in row) row ≡ row)
    × (read_header_fields after other ≡ record { answer = Ok k; after = with_header (header_in row) other })
