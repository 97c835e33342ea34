-- The fields of a header and of a record, in the order of their bytes: the range of each, and the first that is out of it.
-- The ranges are document 01's, "Records"; which one a field has follows from the bytes before it.
use Rattle.std.specs.Prelude.{ℕ, ◌+◌, ◌-◌, Bool, true, false, cond, ◌&&◌, ◌||◌, List, [], ◌∷◌, ◌++◌, eqb, leb, ltb, length, get_or, replicate}
use Rattle.rules.specs.Ranges.{contract_count, least_first_year, most_first_year, most_members, last_second, most_holidays, most_limit, most_price, most_lots, least_legs, most_legs, order_numbers_end, most_ratio}
use Rattle.rules.specs.Days.{Calendar, saturday, sunday, span_start, day_after_span}
use Rattle.rules.specs.Header.{u16_at, u32_at, first_year_sound}
use Rattle.rules.specs.Fields.{submit_kind, close_of_day_kind, width_of, fields_of_kind, number_at}
use Rattle.rules.specs.declared.field.Field.{Field}
use Rattle.rules.specs.declared.field.Field.TheVariants.{LetterV, LetterJ, LetterR, Version, FirstYear, StartDay, Members, HolidayCount, Holiday, Limit}
use Rattle.rules.specs.declared.field.Field.TheVariants.{Kind, Time, Member, Contract, Side, OrderKind, Price, Lots, Order, Low, High, Legs, Ratio}
use Rattle.listing_words.specs.declared.field.Quantity.{Quantity}
use Rattle.listing_words.specs.declared.field.Quantity.TheVariants.{Letter, Number, StartDayNumber, HolidayNumber, KindNumber, SideNumber, OrderKindNumber, Seconds, ContractNumber, Kurus}
use Rattle.listing_words.specs.declared.field.Range.{Range}
use Rattle.listing_words.specs.declared.field.Shape.{Shape}
use Rattle.listing_words.specs.declared.field.Shape.TheVariants.{Header, Record}
use Rattle.listing_words.specs.declared.field.Verdict.{Verdict}
use Rattle.listing_words.specs.declared.field.Verdict.TheVariants.{Passes, Cut, OutOfRange, NoBusinessDay, OnStartDay}

-- ---- which fields follow each other
abbrev pub fixed_fields : List Field
fixed_fields = LetterV ∷ LetterJ ∷ LetterR ∷ Version ∷ FirstYear ∷ StartDay ∷ Members ∷ HolidayCount ∷ []

unfoldable pub fields_in : Shape → List Field
fields_in (Header holidays members) = fixed_fields ++ (replicate holidays Holiday ++ replicate members Limit)
fields_in (Record kind legs) = Kind ∷ fields_of_kind kind legs

-- What the bytes have, as far as they go: a header's counts are its bytes 9 and 10, a record's kind is its first, its legs its second.
abbrev pub header_shape : List ℕ → Shape
header_shape s = Header (get_or s 10 0) (get_or s 9 0)

abbrev pub record_shape : List ℕ → Shape
record_shape s = Record (get_or s 0 0) (get_or s 1 0)

-- ---- numbers
-- What a field's number stands for.
abbrev pub quantity_of : Field → Quantity
quantity_of LetterV = Letter
quantity_of LetterJ = Letter
quantity_of LetterR = Letter
quantity_of Version = Number
quantity_of FirstYear = Number
quantity_of StartDay = StartDayNumber
quantity_of Members = Number
quantity_of HolidayCount = Number
quantity_of Holiday = HolidayNumber
quantity_of Limit = Number
quantity_of Kind = KindNumber
quantity_of Time = Seconds
quantity_of Member = Number
quantity_of Contract = ContractNumber
quantity_of Side = SideNumber
quantity_of OrderKind = OrderKindNumber
quantity_of Price = Kurus
quantity_of Lots = Number
quantity_of Order = Number
quantity_of Low = Kurus
quantity_of High = Kurus
quantity_of Legs = Number
quantity_of Ratio = Number

-- ---- ranges
abbrev pub range : ℕ → ℕ → Range
range least most = record { least = least; most = most }

-- The days of the span; none where the first year is out of its range.
abbrev pub span_of : ℕ → Calendar
span_of year = record { first_year = year; holidays = [] }

unfoldable pub span_range : ℕ → Range
span_range year = cond (first_year_sound year) (range (span_start (span_of year)) (day_after_span (span_of year) - 1)) (range 1 0)

-- Where the header's first year, start day and first holiday stand, and the day limits' low.
abbrev pub first_year_place : ℕ
first_year_place = 5

abbrev pub start_day_place : ℕ
start_day_place = 7

abbrev pub first_holiday_place : ℕ
first_holiday_place = 11

abbrev pub low_place : ℕ
low_place = 2

-- Holidays rise strictly: each is above the one before it.
unfoldable pub holiday_range : List ℕ → ℕ → Range
holiday_range s place =
    let span = span_range (u16_at s first_year_place) in
    cond (leb place first_holiday_place) span (range (u16_at s (place - 2) + 1) span.most)

-- In a ledger of n members, at a place of the bytes.
abbrev pub range_of : ℕ → List ℕ → ℕ → Field → Range
range_of n s place LetterV = range 86 86
range_of n s place LetterJ = range 74 74
range_of n s place LetterR = range 82 82
range_of n s place Version = range 1 1
range_of n s place FirstYear = range least_first_year most_first_year
range_of n s place StartDay = span_range (u16_at s first_year_place)
range_of n s place Members = range 1 most_members
range_of n s place HolidayCount = range 0 most_holidays
range_of n s place Holiday = holiday_range s place
range_of n s place Limit = range 0 most_limit
range_of n s place Kind = range submit_kind close_of_day_kind
range_of n s place Time = range 0 last_second
range_of n s place Member = range 0 (n - 1)
range_of n s place Contract = range 0 (contract_count - 1)
range_of n s place Side = range 0 1
range_of n s place OrderKind = range 0 2
range_of n s place Price = range 1 most_price
range_of n s place Lots = range 1 most_lots
range_of n s place Order = range 0 (order_numbers_end - 1)
range_of n s place Low = range 1 most_price
range_of n s place High = range (u32_at s low_place) most_price
range_of n s place Legs = range least_legs most_legs
range_of n s place Ratio = range 1 most_ratio

unfoldable pub within : Range → ℕ → Bool
within r v = leb r.least v && leb v r.most

-- ---- verdicts
-- A start day is no Saturday and no Sunday; that it is no holiday is tested at the holiday.
abbrev pub day_verdict : List ℕ → Quantity → ℕ → Verdict
day_verdict s Letter v = Passes
day_verdict s Number v = Passes
day_verdict s StartDayNumber v = cond (saturday v || sunday v) NoBusinessDay Passes
day_verdict s HolidayNumber v = cond (eqb v (u16_at s start_day_place)) OnStartDay Passes
day_verdict s KindNumber v = Passes
day_verdict s SideNumber v = Passes
day_verdict s OrderKindNumber v = Passes
day_verdict s Seconds v = Passes
day_verdict s ContractNumber v = Passes
day_verdict s Kurus v = Passes

unfoldable pub verdict_of : ℕ → List ℕ → ℕ → Field → Verdict
verdict_of n s place f =
    let v = number_at s place (width_of f) in
    cond (ltb (length s) (place + width_of f)) Cut
    (cond (within (range_of n s place f) v) (day_verdict s (quantity_of f) v) OutOfRange)

abbrev pub passes : Verdict → Bool
passes Passes = true
passes Cut = false
passes OutOfRange = false
passes NoBusinessDay = false
passes OnStartDay = false

-- ---- the first field that does not pass, with its place
-- A field that is cut is found where the bytes end.
abbrev pub fault_place : List ℕ → ℕ → Verdict → ℕ
fault_place s place Cut = length s
fault_place s place Passes = place
fault_place s place OutOfRange = place
fault_place s place NoBusinessDay = place
fault_place s place OnStartDay = place

pub data Fault : Type 0 where
  none : Fault
  at : ℕ → Field → Fault

abbrev pub is_none : Fault → Bool
is_none none = true
is_none (at place f) = false

unfoldable pub fault_in : ℕ → List ℕ → ℕ → List Field → Fault
fault_in n s place [] = none
fault_in n s place (f ∷ fs) = let later = fault_in n s (place + width_of f) fs in cond (passes (verdict_of n s place f)) later (at (fault_place s place (verdict_of n s place f)) f)

abbrev pub header_fault : List ℕ → Fault
header_fault s = fault_in 0 s 0 (fields_in (header_shape s))

-- Of the record that the bytes begin with, in a ledger of n members.
abbrev pub fault_of : ℕ → List ℕ → Fault
fault_of n s = fault_in n s 0 (fields_in (record_shape s))
