-- Document 01, "Days and contracts": days.
use Rattle.std.specs.Prelude.{ℕ, zero, suc, ◌+◌, ◌*◌, ◌-◌, ◌/◌, ◌%◌, Bool, not, cond, ◌&&◌, ◌||◌, List, eqb, leb, ltb, Option, Some, None}
use Rattle.arith.specs.Lists.{any, total, from}
use Rattle.rules.specs.Ranges.{year_of_day_zero, months_in_span, months_in_year}
use Rattle.rules.specs.declared.units.DayNo.{DayNo}

-- What a ledger knows of days: its first year and its holiday list.
pub record Calendar : Type 0 where
  pub first_year : ℕ
  pub holidays : List ℕ

unfoldable pub leap_year : ℕ → Bool
leap_year y = eqb (y % 4) 0 && not (eqb (y % 100) 0) || eqb (y % 400) 0

-- The days of month m of year y, January being month 0.
unfoldable pub month_days : ℕ → ℕ → ℕ
month_days y m = cond (eqb m 1) (cond (leap_year y) 29 28) (cond (eqb m 3 || eqb m 5 || eqb m 8 || eqb m 10) 30 31)

-- The first day of the nth year from 2020 on; 1 January 2020 is day 0.
unfoldable pub year_start : ℕ → ℕ
year_start zero = 0
year_start (suc n) = year_start n + cond (leap_year (year_of_day_zero + n)) 366 365

-- Months are counted from January 2020, month 0.
unfoldable pub month_length : ℕ → ℕ
month_length i = month_days (year_of_day_zero + i / months_in_year) (i % months_in_year)

unfoldable pub month_start : ℕ → ℕ
month_start i = year_start (i / months_in_year) + total (month_days (year_of_day_zero + i / months_in_year)) (from 0 (i % months_in_year))

-- Day 0 is a Wednesday.
abbrev pub saturday : ℕ → Bool
saturday d = eqb (d % 7) 3

abbrev pub sunday : ℕ → Bool
sunday d = eqb (d % 7) 4

-- A business day is no Saturday, no Sunday and not in the holiday list.
-- Holidays lie in the span, so outside it only weekends are no business days.
unfoldable pub business_day : Calendar → ℕ → Bool
business_day k d = not (saturday d) && not (sunday d) && not (any (λ x. eqb x d) k.holidays)

-- The span: six years from the first year; its first day, and the first day after its last.
abbrev pub first_month : Calendar → ℕ
first_month k = months_in_year * (k.first_year - year_of_day_zero)

unfoldable pub span_start : Calendar → ℕ
span_start k = month_start (first_month k)

unfoldable pub day_after_span : Calendar → ℕ
day_after_span k = month_start (first_month k + months_in_span)

unfoldable pub in_span : Calendar → ℕ → Bool
in_span k d = leb (span_start k) d && ltb d (day_after_span k)

-- The first business day of the n days from x on.
unfoldable pub first_business_day : Calendar → ℕ → ℕ → Option DayNo
first_business_day k zero x = None
first_business_day k (suc n) x = let later = first_business_day k n (suc x) in cond (business_day k x) (Some (record { 0 = x })) later

-- The next business day after day d in the span.
unfoldable pub next_business_day : Calendar → ℕ → Option DayNo
next_business_day k d = first_business_day k (day_after_span k - suc d) (suc d)

-- The nth business day before day d, n at least 1; None where it lies before day 0.
-- Day d itself is not counted: the search begins on the day before it.
unfoldable pub business_day_before : Calendar → ℕ → ℕ → Option DayNo
business_day_before k n zero = None
business_day_before k n (suc x) =
    let found = business_day_before k (n - 1) x in
    let idle = business_day_before k n x in
    cond (business_day k x) (cond (leb n 1) (Some (record { 0 = x })) found) idle
