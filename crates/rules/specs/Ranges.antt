-- Numbers of document 01 that stand in several places, each under one name.
use Rattle.std.specs.Prelude.{ℕ, ◌*◌}

-- "Records": how many contracts have rows, prices and orders; "contracts above 101" are out of range.
abbrev pub contract_count : ℕ
contract_count = 102

-- "Days and contracts": a year, four quarters and twelve months make 17 contracts, in each of six years.
abbrev pub contracts_in_year : ℕ
contracts_in_year = 17

abbrev pub years_in_span : ℕ
years_in_span = 6

-- How many contracts have a term, that is a period by their number: 17 for each of six years.
abbrev pub term_count : ℕ
term_count = years_in_span * contracts_in_year

abbrev pub quarters_in_span : ℕ
quarters_in_span = 24

abbrev pub months_in_span : ℕ
months_in_span = 72

abbrev pub quarters_in_year : ℕ
quarters_in_year = 4

abbrev pub months_in_year : ℕ
months_in_year = 12

abbrev pub months_in_quarter : ℕ
months_in_quarter = 3

-- The places of a year's contracts: 0 the year itself, 1 to 4 its quarters, 5 to 16 its months.
abbrev pub first_quarter : ℕ
first_quarter = 1

abbrev pub last_quarter : ℕ
last_quarter = 4

abbrev pub january : ℕ
january = 5

-- Day 0 is 1 January of this year; that a first year may be it too is another sentence.
abbrev pub year_of_day_zero : ℕ
year_of_day_zero = 2020

abbrev pub least_first_year : ℕ
least_first_year = 2020

abbrev pub most_first_year : ℕ
most_first_year = 2094

-- "What the ledger holds".
abbrev pub most_members : ℕ
most_members = 32

abbrev pub most_orders : ℕ
most_orders = 256

-- Places for deal lines that a call is lent.
abbrev pub least_lines : ℕ
least_lines = 200

-- "Records". A time is 0 to 86,399 s.
abbrev pub last_second : ℕ
last_second = 86399

abbrev pub most_holidays : ℕ
most_holidays = 120

-- A position limit is 0 to 100,000 lots.
abbrev pub most_limit : ℕ
most_limit = 100000

-- A price is 1 to 1,000,000 kuruş.
abbrev pub most_price : ℕ
most_price = 1000000

-- An order and a leg have 1 to 100 lots.
abbrev pub most_lots : ℕ
most_lots = 100

abbrev pub least_legs : ℕ
least_legs = 2

abbrev pub most_legs : ℕ
most_legs = 12

-- An order number is a u32.
abbrev pub order_numbers_end : ℕ
order_numbers_end = 4294967296

-- Per mille.
abbrev pub most_ratio : ℕ
most_ratio = 1000

-- "Matching": accepted submits of a member that bear one time on one day.
abbrev pub most_submits_in_second : ℕ
most_submits_in_second = 5

-- "Close of day": an order of the same day quotes if it entered so many seconds before the record's time.
abbrev pub seconds_to_quote : ℕ
seconds_to_quote = 300

-- "Why a record is turned back".
abbrev pub most_lots_run : ℕ
most_lots_run = 5000000

abbrev pub most_accepted_submits : ℕ
most_accepted_submits = 4000000000
