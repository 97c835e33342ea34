-- A header as a row of numbers, for a host.
use Rattle.std.specs.Prelude.{ℕ, ◌+◌, not, List, [], ◌∷◌, map, ltb, length, get_or, Ok}
use Rattle.arith.specs.Lists.{from, over}
use Rattle.rules.specs.declared.refusal.Refusal.TheVariants.{TableUnsound, HeaderUnsound}
use Rattle.rules.specs.Answers.{Outcome, decide}
use Rattle.rules.specs.Header.{Header, header_length, header_of, begins_with_header, write_header_spec}

-- ---- places
-- How many numbers a row for a header has.
abbrev pub header_fields : ℕ
header_fields = 156

abbrev pub first_year_field : ℕ
first_year_field = 0

abbrev pub start_day_field : ℕ
start_day_field = 1

abbrev pub members_field : ℕ
members_field = 2

abbrev pub holiday_count_field : ℕ
holiday_count_field = 3

-- Where the holidays begin, 120 places, and the limits, 32. Places past the holidays and past the members are surplus.
abbrev pub holidays_field : ℕ
holidays_field = 4

abbrev pub limits_field : ℕ
limits_field = 124

-- ---- the numbers of a header in a row, and the header of a row
unfoldable pub with_header : Header → List ℕ → List ℕ
with_header h row = over limits_field h.limits (over 0 (h.first_year ∷ h.start_day ∷ h.members ∷ length h.holidays ∷ h.holidays) row)

-- n numbers from place i on.
unfoldable pub numbers_at : List ℕ → ℕ → ℕ → List ℕ
numbers_at f i n = map (λ j. get_or f (i + j) 0) (from 0 n)

abbrev pub header_in : List ℕ → Header
header_in f =
    record {
      first_year = get_or f first_year_field 0;
      start_day = get_or f start_day_field 0;
      members = get_or f members_field 0;
      holidays = numbers_at f holidays_field (get_or f holiday_count_field 0);
      limits = numbers_at f limits_field (get_or f members_field 0);
    }

-- ---- bytes read to a row, and written from one
-- A short row is 1; then bytes that begin with no sound header are 2. The answer gives where the first record begins.
unfoldable pub read_header_fields : List ℕ → List ℕ → Outcome (List ℕ)
read_header_fields s row =
    decide ((ltb (length row) header_fields, TableUnsound) ∷ (not (begins_with_header s), HeaderUnsound) ∷ []) row
    (record { answer = Ok (header_length s); after = with_header (header_of s) row })

-- A short row is 1; then an unsound header is 2; then a short output is 1.
unfoldable pub write_header_fields : List ℕ → List ℕ → Outcome (List ℕ)
write_header_fields row out = decide ((ltb (length row) header_fields, TableUnsound) ∷ []) out (write_header_spec (header_in row) out)
