-- Document 01, "Days and contracts": contracts.
use Rattle.std.specs.Prelude.{ℕ, ◌+◌, ◌*◌, ◌-◌, ◌/◌, ◌%◌, Bool, true, false, cond, ◌&&◌, List, [], ◌++◌, eqb, leb, ltb, take, Option, Some, None}
use Rattle.arith.specs.Lists.{from, kept, any}
use Rattle.rules.specs.declared.contract.ContractKind.{ContractKind}
use Rattle.rules.specs.declared.contract.ContractKind.TheVariants.{Year, Quarter, Month}
use Rattle.rules.specs.declared.contract.Term.{Term}
use Rattle.rules.specs.Ranges.{term_count, contracts_in_year, quarters_in_year, months_in_year, months_in_quarter, first_quarter, last_quarter, january}
use Rattle.rules.specs.Days.{Calendar, month_start, first_month, business_day_before}
use Rattle.rules.specs.declared.units.DayNo.{DayNo}

-- ---- kinds
-- The GGF threshold: 10, 20, 50 lots.
abbrev pub threshold_of : ContractKind → ℕ
threshold_of Year = 10
threshold_of Quarter = 20
threshold_of Month = 50

-- How many of a kind are open: the first 4 years, 8 quarters, 15 months.
abbrev pub open_count : ContractKind → ℕ
open_count Year = 4
open_count Quarter = 8
open_count Month = 15

-- A contract closes on the 5th business day before its first delivery day if it is a year, on the 3rd if a quarter or month (001, articles 4 and 5).
abbrev pub closing_distance : ContractKind → ℕ
closing_distance Year = 5
closing_distance Quarter = 3
closing_distance Month = 3

abbrev pub months_in : ContractKind → ℕ
months_in Year = months_in_year
months_in Quarter = months_in_quarter
months_in Month = 1

abbrev pub same_kind : ContractKind → ContractKind → Bool
same_kind Year Year = true
same_kind Year Quarter = false
same_kind Year Month = false
same_kind Quarter Year = false
same_kind Quarter Quarter = true
same_kind Quarter Month = false
same_kind Month Year = false
same_kind Month Quarter = false
same_kind Month Month = true

-- ---- numbers
-- It has a term, that is a period by its number. A contract that has rows but no term is never open, never closes, never
-- cascades and holds no hour.
abbrev pub has_term : ℕ → Bool
has_term c = ltb c term_count

-- Contract number = 17 times year index (0 to 5) + k: k = 0 year, 1 to 4 quarters, 5 to 16 months.
unfoldable pub term_of : ℕ → Term
term_of c =
    cond (eqb (c % contracts_in_year) 0) (record { kind = Year; index = c / contracts_in_year })
    (cond (leb (c % contracts_in_year) last_quarter) (record { kind = Quarter; index = quarters_in_year * (c / contracts_in_year) + (c % contracts_in_year - first_quarter) })
    (record { kind = Month; index = months_in_year * (c / contracts_in_year) + (c % contracts_in_year - january) }))

abbrev pub kind_of : ℕ → ContractKind
kind_of c = (term_of c).kind

-- All contracts of a kind, each of which has a term, by delivery: within a kind the numbers rise with delivery.
unfoldable pub contracts_of : ContractKind → List ℕ
contracts_of s = kept (λ c. same_kind (kind_of c) s) (from 0 term_count)

-- A year or a quarter: a contract that cascades.
abbrev pub is_parent : ℕ → Bool
is_parent c = has_term c && leb (c % contracts_in_year) last_quarter

-- A year's four quarters, a quarter's three months.
unfoldable pub children_of : ℕ → List ℕ
children_of c =
    cond (is_parent c)
    (cond (eqb (c % contracts_in_year) 0) (from (c + first_quarter) quarters_in_year)
    (from (contracts_in_year * (c / contracts_in_year) + january + months_in_quarter * (c % contracts_in_year - first_quarter)) months_in_quarter))
    []

-- ---- periods
-- The first delivery day of a term, and the first day after its last.
unfoldable pub term_first_day : Calendar → Term → ℕ
term_first_day k t = month_start (first_month k + months_in t.kind * t.index)

unfoldable pub term_day_after : Calendar → Term → ℕ
term_day_after k t = month_start (first_month k + (months_in t.kind * t.index + months_in t.kind))

-- The same of a contract by its number, if it has a term.
abbrev pub first_day : Calendar → ℕ → ℕ
first_day k c = term_first_day k (term_of c)

abbrev pub day_after : Calendar → ℕ → ℕ
day_after k c = term_day_after k (term_of c)

-- How many days it delivers.
unfoldable pub days_of : Calendar → ℕ → ℕ
days_of k c = cond (has_term c) (day_after k c - first_day k c) 0

unfoldable pub holds_day : Calendar → ℕ → ℕ → Bool
holds_day k c d = has_term c && (leb (first_day k c) d && ltb d (day_after k c))

-- Every day has 24 delivery hours: hour h, counted from the first hour of day 0, is one of day h / 24.
unfoldable pub holds_hour : Calendar → ℕ → ℕ → Bool
holds_hour k c h = holds_day k c (h / 24)

-- ---- closing and open
unfoldable pub term_closing_day : Calendar → Term → Option DayNo
term_closing_day k t = business_day_before k (closing_distance t.kind) (term_first_day k t)

-- A day that is looked for is day d or later; None lies before day 0.
abbrev pub not_before : Option DayNo → ℕ → Bool
not_before (Some x) d = leb d x.0
not_before None d = false

-- A day that is looked for is day d.
abbrev pub is_on : Option DayNo → ℕ → Bool
is_on (Some x) d = eqb x.0 d
is_on None d = false

-- A day that is looked for is earlier than day d.
abbrev pub is_before : Option DayNo → ℕ → Bool
is_before (Some x) d = ltb x.0 d
is_before None d = true

-- The closing day of a contract by its number, if it has a term, and whether it is on a day or before it.
abbrev pub closing_day : Calendar → ℕ → Option DayNo
closing_day k c = term_closing_day k (term_of c)

abbrev pub closes_on : Calendar → ℕ → ℕ → Bool
closes_on k c d = has_term c && is_on (closing_day k c) d

abbrev pub closes_before : Calendar → ℕ → ℕ → Bool
closes_before k c d = has_term c && is_before (closing_day k c) d

-- The term's closing day is day d or later.
unfoldable pub still_to_close : Calendar → ℕ → Term → Bool
still_to_close k d t = not_before (term_closing_day k t) d

-- Open on a day: of each kind, the first 4 years, 8 quarters, 15 months by delivery, among those in the ledger whose
-- closing day is that day or later.
unfoldable pub open_of_kind : Calendar → ℕ → ContractKind → List ℕ
open_of_kind k d s = take (open_count s) (kept (λ c. still_to_close k d (term_of c)) (contracts_of s))

unfoldable pub open_contracts : Calendar → ℕ → List ℕ
open_contracts k d = open_of_kind k d Year ++ (open_of_kind k d Quarter ++ open_of_kind k d Month)

unfoldable pub open_on : Calendar → ℕ → ℕ → Bool
open_on k d c = any (λ x. eqb x c) (open_of_kind k d (kind_of c))

-- A contract has cascaded once it is a year or quarter whose closing day is before the day.
unfoldable pub has_cascaded : Calendar → ℕ → ℕ → Bool
has_cascaded k d c = is_parent c && closes_before k c d
