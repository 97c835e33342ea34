-- Document 01, "Records": the header of a journal. All fields are big-endian.
use Rattle.std.specs.Prelude.{ℕ, ◌+◌, ◌*◌, ◌/◌, ◌%◌, Bool, true, false, not, ◌&&◌, eqb, leb, ltb, length, take, get_or, Ok}
use mathlib.Core.List.{List, [], ◌∷◌, ◌++◌, map, flat_map}
use Rattle.arith.specs.Lists.{from, every, over}
use Rattle.rules.specs.declared.refusal.Refusal.TheVariants.{TableUnsound, HeaderUnsound}
use Rattle.rules.specs.Ranges.{least_first_year, most_first_year, most_members, most_holidays, most_limit}
use Rattle.rules.specs.Answers.{Outcome, decide}
use Rattle.rules.specs.Days.{Calendar, business_day, in_span}

-- ---- big-endian numbers
unfoldable pub u16_at : List ℕ → ℕ → ℕ
u16_at s i = get_or s i 0 * 256 + get_or s (i + 1) 0

unfoldable pub u32_at : List ℕ → ℕ → ℕ
u32_at s i = u16_at s i * 65536 + u16_at s (i + 2)

unfoldable pub u16_bytes : ℕ → List ℕ
u16_bytes n = n / 256 % 256 ∷ n % 256 ∷ []

unfoldable pub u32_bytes : ℕ → List ℕ
u32_bytes n = u16_bytes (n / 65536) ++ u16_bytes (n % 65536)

-- n numbers, one after the other, from place i on.
unfoldable pub u16s_at : List ℕ → ℕ → ℕ → List ℕ
u16s_at s i n = map (λ j. u16_at s (i + 2 * j)) (from 0 n)

unfoldable pub u32s_at : List ℕ → ℕ → ℕ → List ℕ
u32s_at s i n = map (λ j. u32_at s (i + 4 * j)) (from 0 n)

-- ---- the header
pub record Header : Type 0 where
  pub first_year : ℕ
  pub start_day : ℕ
  pub members : ℕ
  pub holidays : List ℕ
  pub limits : List ℕ

-- The three letters VJR and the 16-bit version, 1.
abbrev pub letters_and_version : List ℕ
letters_and_version = 86 ∷ 74 ∷ 82 ∷ 0 ∷ 1 ∷ []

unfoldable pub same_bytes : List ℕ → List ℕ → Bool
same_bytes [] [] = true
same_bytes [] (y ∷ ys) = false
same_bytes (x ∷ xs) [] = false
same_bytes (x ∷ xs) (y ∷ ys) = eqb x y && same_bytes xs ys

-- Where the other fields of a header begin, in bytes; the limits stand behind the holidays.
abbrev pub first_year_byte : ℕ
first_year_byte = 5

abbrev pub start_day_byte : ℕ
start_day_byte = 7

abbrev pub members_byte : ℕ
members_byte = 9

abbrev pub holiday_count_byte : ℕ
holiday_count_byte = 10

abbrev pub first_holiday_byte : ℕ
first_holiday_byte = 11

-- How many bytes a holiday and a limit take.
abbrev pub holiday_length : ℕ
holiday_length = 2

abbrev pub limit_length : ℕ
limit_length = 4

-- Where the limits begin behind so many holidays.
abbrev pub first_limit_byte : ℕ → ℕ
first_limit_byte h = first_holiday_byte + holiday_length * h

-- How many bytes the header of so many members and holidays takes.
abbrev pub length_of_header : ℕ → ℕ → ℕ
length_of_header n h = first_limit_byte h + limit_length * n

-- How many bytes a header takes that begins as s does.
unfoldable pub header_length : List ℕ → ℕ
header_length s = length_of_header (get_or s members_byte 0) (get_or s holiday_count_byte 0)

unfoldable pub header_of : List ℕ → Header
header_of s =
    let n = get_or s members_byte 0 in
    let h = get_or s holiday_count_byte 0 in
    record { first_year = u16_at s first_year_byte; start_day = u16_at s start_day_byte; members = n; holidays = u16s_at s first_holiday_byte h; limits = u32s_at s (first_limit_byte h) n }

unfoldable pub header_bytes : Header → List ℕ
header_bytes h =
    letters_and_version
    ++ (u16_bytes h.first_year
    ++ (u16_bytes h.start_day
    ++ (h.members ∷ length h.holidays ∷ flat_map u16_bytes h.holidays ++ flat_map u32_bytes h.limits)))

abbrev pub calendar_of : Header → Calendar
calendar_of h = record { first_year = h.first_year; holidays = h.holidays }

-- Each number is below the next.
unfoldable pub rising : List ℕ → Bool
rising [] = true
rising (x ∷ xs) = every (ltb x) xs && rising xs

abbrev pub first_year_sound : ℕ → Bool
first_year_sound y = leb least_first_year y && leb y most_first_year

-- First year 2020 to 2094; 0 to 120 holidays, strictly rising in the span.
unfoldable pub calendar_sound : Calendar → Bool
calendar_sound k =
    first_year_sound k.first_year && leb (length k.holidays) most_holidays && rising k.holidays && every (in_span k) k.holidays

abbrev pub members_sound : ℕ → Bool
members_sound n = leb 1 n && leb n most_members

-- A position limit: 0 to 100,000 lots.
abbrev pub limit_sound : ℕ → Bool
limit_sound l = leb l most_limit

-- A business day in the span.
unfoldable pub day_sound : Calendar → ℕ → Bool
day_sound k d = in_span k d && business_day k d

unfoldable pub header_sound : Header → Bool
header_sound h =
    calendar_sound (calendar_of h) && day_sound (calendar_of h) h.start_day && members_sound h.members && eqb (length h.limits) h.members && every limit_sound h.limits

-- The bytes begin with a sound header; bytes past it are records.
unfoldable pub begins_with_header : List ℕ → Bool
begins_with_header s = leb first_holiday_byte (length s) && same_bytes (take first_year_byte s) letters_and_version && leb (header_length s) (length s) && header_sound (header_of s)

-- Writing a header, as a record is written: an unsound one is 2, before a short output (1); nothing is written on either.
unfoldable pub write_header_spec : Header → List ℕ → Outcome (List ℕ)
write_header_spec h out =
    let bytes = header_bytes h in
    decide ((not (header_sound h), HeaderUnsound) ∷ (ltb (length out) (length bytes), TableUnsound) ∷ []) out
    (record { answer = Ok (length bytes); after = over 0 bytes out })
