-- Document 01, "What the ledger holds": the lent tables, every place in them, and what is read and written there.
-- docs/LAYOUT.md has the same places for the author of a host.
use Rattle.std.specs.Prelude.{ℕ, ◌+◌, ◌*◌, Bool, cond, ◌||◌, eqb, ltb, length, take, drop, get_or, set, replicate, ℤ, pos, nat_abs, ◌+ℤ◌, ◌*ℤ◌, Ok}
use mathlib.Core.List.{List, [], ◌∷◌, map, flat_map}
use Rattle.arith.specs.Lists.{from, over, total, in_each_block}
use Rattle.rules.specs.declared.order.Order.{Order}
use Rattle.rules.specs.Answers.{Outcome}
use Rattle.rules.specs.Ranges.{contract_count, most_members, most_holidays, most_orders, most_price, least_lines}
use Rattle.rules.specs.Sides.{side_of, side_number}
use Rattle.rules.specs.Days.{Calendar}
use Rattle.rules.specs.ContractTerms.{open_on}
use Rattle.rules.specs.Header.{Header}

-- The lent tables. A call is lent a line table of its own; the others are the ledger.
pub record Tables : Type 0 where
  pub head : List ℕ
  pub prices : List ℕ
  pub lots : List ℤ
  pub value : List ℤ
  pub book : List ℕ
  pub lines : List ℤ

-- The lent lists as this record.
abbrev pub lent : List ℕ → List ℕ → List ℤ → List ℤ → List ℕ → List ℤ → Tables
lent head prices lots value book lines = record { head = head; prices = prices; lots = lots; value = value; book = book; lines = lines }

-- A table with one of its lists changed.
abbrev pub with_head : List ℕ → Tables → Tables
with_head l t = record { head = l; prices = t.prices; lots = t.lots; value = t.value; book = t.book; lines = t.lines }

abbrev pub with_prices : List ℕ → Tables → Tables
with_prices l t = record { head = t.head; prices = l; lots = t.lots; value = t.value; book = t.book; lines = t.lines }

abbrev pub with_rows : List ℤ → List ℤ → Tables → Tables
with_rows l v t = record { head = t.head; prices = t.prices; lots = l; value = v; book = t.book; lines = t.lines }

abbrev pub with_book : List ℕ → Tables → Tables
with_book l t = record { head = t.head; prices = t.prices; lots = t.lots; value = t.value; book = l; lines = t.lines }

abbrev pub with_lines : List ℤ → Tables → Tables
with_lines l t = record { head = t.head; prices = t.prices; lots = t.lots; value = t.value; book = t.book; lines = l }

-- ---- the head: its places
abbrev pub first_year_place : ℕ
first_year_place = 0

abbrev pub members_place : ℕ
members_place = 1

abbrev pub holiday_count_place : ℕ
holiday_count_place = 2

abbrev pub day_place : ℕ
day_place = 3

abbrev pub time_place : ℕ
time_place = 4

abbrev pub accepted_submits_place : ℕ
accepted_submits_place = 5

abbrev pub lots_run_place : ℕ
lots_run_place = 6

abbrev pub order_count_place : ℕ
order_count_place = 7

-- 120 places for holidays from here on; then 32 for the members' position limits, for their default marks and for
-- their accepted submits in the present second.
abbrev pub holidays_from : ℕ
holidays_from = 8

abbrev pub limits_from : ℕ
limits_from = holidays_from + most_holidays

abbrev pub marks_from : ℕ
marks_from = limits_from + most_members

abbrev pub submits_from : ℕ
submits_from = marks_from + most_members

-- ---- the head as it is read
abbrev pub first_year : Tables → ℕ
first_year t = get_or t.head first_year_place 0

abbrev pub members : Tables → ℕ
members t = get_or t.head members_place 0

abbrev pub holiday_count : Tables → ℕ
holiday_count t = get_or t.head holiday_count_place 0

abbrev pub day : Tables → ℕ
day t = get_or t.head day_place 0

abbrev pub time : Tables → ℕ
time t = get_or t.head time_place 0

-- The count of accepted submits.
abbrev pub accepted_submits : Tables → ℕ
accepted_submits t = get_or t.head accepted_submits_place 0

-- The lots run: the sum of absolute lots over all deal lines.
abbrev pub lots_run : Tables → ℕ
lots_run t = get_or t.head lots_run_place 0

abbrev pub order_count : Tables → ℕ
order_count t = get_or t.head order_count_place 0

abbrev pub holidays : Tables → List ℕ
holidays t = take (holiday_count t) (drop holidays_from t.head)

-- A member's position limit.
abbrev pub limit : Tables → ℕ → ℕ
limit t m = get_or t.head (limits_from + m) 0

-- What a member's mark is once it has defaulted.
abbrev pub default_mark : ℕ
default_mark = 1

-- A member's default mark.
abbrev pub mark : Tables → ℕ → ℕ
mark t m = get_or t.head (marks_from + m) 0

-- A member's accepted submits in the present second.
abbrev pub submits_this_second : Tables → ℕ → ℕ
submits_this_second t m = get_or t.head (submits_from + m) 0

abbrev pub calendar : Tables → Calendar
calendar t = record { first_year = first_year t; holidays = holidays t }

abbrev pub defaulted : Tables → ℕ → Bool
defaulted t m = eqb (mark t m) default_mark

-- The contract is open on the ledger's day.
unfoldable pub is_open : Tables → ℕ → Bool
is_open t c = open_on (calendar t) (day t) c

-- ---- the head as it is written
abbrev pub with_day : ℕ → List ℕ → List ℕ
with_day d head = set head day_place d

abbrev pub with_time : ℕ → List ℕ → List ℕ
with_time s head = set head time_place s

abbrev pub with_accepted_submits : ℕ → List ℕ → List ℕ
with_accepted_submits n head = set head accepted_submits_place n

abbrev pub with_lots_run : ℕ → List ℕ → List ℕ
with_lots_run n head = set head lots_run_place n

abbrev pub with_order_count : ℕ → List ℕ → List ℕ
with_order_count n head = set head order_count_place n

abbrev pub with_mark : ℕ → List ℕ → List ℕ
with_mark m head = set head (marks_from + m) default_mark

abbrev pub with_submits_this_second : ℕ → ℕ → List ℕ → List ℕ
with_submits_this_second m n head = set head (submits_from + m) n

-- ---- prices: five places for each contract
abbrev pub price_width : ℕ
price_width = 5

abbrev pub ggf_place : ℕ → ℕ
ggf_place c = c * price_width

abbrev pub low_place : ℕ → ℕ
low_place c = c * price_width + 1

abbrev pub high_place : ℕ → ℕ
high_place c = c * price_width + 2

abbrev pub day_lots_place : ℕ → ℕ
day_lots_place c = c * price_width + 3

abbrev pub day_value_place : ℕ → ℕ
day_value_place c = c * price_width + 4

-- The GGF, the reference price; 0 = none yet.
abbrev pub ggf : Tables → ℕ → ℕ
ggf t c = get_or t.prices (ggf_place c) 0

abbrev pub low : Tables → ℕ → ℕ
low t c = get_or t.prices (low_place c) 0

abbrev pub high : Tables → ℕ → ℕ
high t c = get_or t.prices (high_place c) 0

-- M, the day's ordinary lots, and V, their lots times price, each deal counted once.
abbrev pub day_lots : Tables → ℕ → ℕ
day_lots t c = get_or t.prices (day_lots_place c) 0

abbrev pub day_value : Tables → ℕ → ℕ
day_value t c = get_or t.prices (day_value_place c) 0

abbrev pub with_ggf : ℕ → ℕ → List ℕ → List ℕ
with_ggf c p prices = set prices (ggf_place c) p

-- A contract's low and high.
abbrev pub with_day_limits : ℕ → ℕ → ℕ → List ℕ → List ℕ
with_day_limits c l h prices = set (set prices (low_place c) l) (high_place c) h

-- A contract's M and V.
abbrev pub with_dealt : ℕ → ℕ → ℕ → List ℕ → List ℕ
with_dealt c m v prices = set (set prices (day_lots_place c) m) (day_value_place c) v

-- ---- rows: the rows of one contract lie together, member by member, 32 places for each
abbrev pub row_width : ℕ
row_width = most_members

-- Where a contract's rows begin, and a member's row.
abbrev pub rows_from : ℕ → ℕ
rows_from c = c * row_width

abbrev pub row_place : ℕ → ℕ → ℕ
row_place c m = rows_from c + m

-- Net lots (buys less sells), and value, the sum of signed lots times price: one lot is 0.1 MWh in an hour and a price
-- is for a MWh, so value is in tenths of a kuruş for each delivery hour.
abbrev pub lots_at : Tables → ℕ → ℕ → ℤ
lots_at t c m = get_or t.lots (row_place c m) (pos 0)

abbrev pub value_at : Tables → ℕ → ℕ → ℤ
value_at t c m = get_or t.value (row_place c m) (pos 0)

-- ---- the book: eight places for each of at most 256 resting orders
abbrev pub order_width : ℕ
order_width = 8

abbrev pub side_at : List ℕ → ℕ → ℕ
side_at l i = get_or l (i * order_width + 3) 0

abbrev pub order_at : List ℕ → ℕ → Order
order_at l i =
    record {
      number = get_or l (i * order_width) 0;
      member = get_or l (i * order_width + 1) 0;
      contract = get_or l (i * order_width + 2) 0;
      side = side_of (side_at l i);
      price = record { 0 = get_or l (i * order_width + 4) 0 };
      lots = record { 0 = get_or l (i * order_width + 5) 0 };
      day = record { 0 = get_or l (i * order_width + 6) 0 };
      time = get_or l (i * order_width + 7) 0;
    }

abbrev pub order_places : Order → List ℕ
order_places o =
    o.number
    ∷ o.member
    ∷ o.contract
    ∷ side_number o.side
    ∷ o.price.0
    ∷ o.lots.0
    ∷ o.day.0
    ∷ o.time
    ∷ []

-- The orders of the table.
unfoldable pub orders : Tables → List Order
orders t = map (order_at t.book) (from 0 (order_count t))

-- Those that rest, which all orders of the table do: they match, quote, count towards a limit, can be cancelled and named by a leg.
-- Damage is tested of the whole table, and what closes or defaults leaves the whole table.
abbrev pub resting : Tables → List Order
resting t = orders t

-- The book holds these orders and no other; places past them stay as they were.
unfoldable pub with_orders : List Order → Tables → Tables
with_orders os t = with_book (over 0 (flat_map order_places os) t.book) (with_head (with_order_count (length os) t.head) t)

-- ---- deal lines: four places for each line, member, contract, signed lots, price
abbrev pub line_width : ℕ
line_width = 4

pub record Line : Type 0 where
  pub member : ℕ
  pub contract : ℕ
  pub lots : ℤ
  pub price : ℕ

abbrev pub line_places : Line → List ℤ
line_places l = pos l.member ∷ pos l.contract ∷ l.lots ∷ pos l.price ∷ []

-- A line as it is read: its member, contract and price are printed without a sign.
abbrev pub line_at : List ℤ → ℕ → Line
line_at l i =
    record {
      member = nat_abs (get_or l (i * line_width) (pos 0));
      contract = nat_abs (get_or l (i * line_width + 1) (pos 0));
      lots = get_or l (i * line_width + 2) (pos 0);
      price = nat_abs (get_or l (i * line_width + 3) (pos 0));
    }

-- The first n lines of a line table.
unfoldable pub first_lines : ℕ → List ℤ → List Line
first_lines n l = map (line_at l) (from 0 n)

-- What a line adds to a row: its signed lots, and these times its price.
abbrev pub line_lots : Line → ℤ
line_lots l = l.lots

abbrev pub line_value : Line → ℤ
line_value l = l.lots *ℤ pos l.price

-- Each line's amount added to its member's row of its contract.
unfoldable pub posted : (Line → ℤ) → List Line → List ℤ → List ℤ
posted amount [] rows = rows
posted amount (l ∷ ls) rows =
    let place = row_place l.contract l.member in
    posted amount ls (set rows place (get_or rows place (pos 0) +ℤ amount l))

unfoldable pub line_run : List Line → ℕ
line_run ls = total (λ l. nat_abs l.lots) ls

-- An accepted record with these lines: they are posted to the rows, counted in the lots run and printed in the
-- first places of the line table; the answer is their count.
unfoldable pub booked : List Line → Tables → Outcome Tables
booked ls t =
    record {
      answer = Ok (length ls);
      after =
          with_lines (over 0 (flat_map line_places ls) t.lines)
          (with_rows (posted line_lots ls t.lots) (posted line_value ls t.value) (with_head (with_lots_run (lots_run t + line_run ls) t.head) t));
    }

-- ---- time and the second's counts
-- No member has an accepted submit in the present second.
unfoldable pub without_submits : Tables → Tables
without_submits t = with_head (over submits_from (replicate (members t) 0) t.head) t

-- An accepted record's time becomes the ledger's; in a later second nobody has submitted yet.
unfoldable pub timed : ℕ → Tables → Tables
timed s t = cond (ltb (time t) s) (with_head (with_time s (without_submits t).head) t) t

-- ---- fresh
-- How long each table must be, sized for 32 members.
abbrev pub head_length : ℕ
head_length = submits_from + most_members

abbrev pub prices_length : ℕ
prices_length = contract_count * price_width

abbrev pub rows_length : ℕ
rows_length = contract_count * row_width

abbrev pub book_length : ℕ
book_length = most_orders * order_width

abbrev pub lines_length : ℕ
lines_length = least_lines * line_width

-- Tables of the least length, all zero.
abbrev pub zero_tables : Tables
zero_tables =
    record {
      head = replicate head_length 0;
      prices = replicate prices_length 0;
      lots = replicate rows_length (pos 0);
      value = replicate rows_length (pos 0);
      book = replicate book_length 0;
      lines = replicate lines_length (pos 0);
    }

unfoldable pub ledger_short : Tables → Bool
ledger_short t =
    ltb (length t.head) head_length
    || ltb (length t.prices) prices_length
    || ltb (length t.lots) rows_length
    || ltb (length t.value) rows_length
    || ltb (length t.book) book_length

-- A call is lent 200 places for lines.
unfoldable pub lines_short : Tables → Bool
lines_short t = ltb (length t.lines) lines_length

-- Fresh: zero rows, counts and GGFs, empty book, no marks, low 1, high 1,000,000, the start day, time 0.
-- Surplus places stay untouched: those of holidays past the count, of members past the members, of orders and lines.
unfoldable pub fresh_head : Header → List ℕ → List ℕ
fresh_head h l =
    let n = h.members in
    over submits_from (replicate n 0)
    (over marks_from (replicate n 0)
    (over limits_from h.limits
    (over holidays_from h.holidays (over first_year_place (h.first_year ∷ n ∷ length h.holidays ∷ h.start_day ∷ 0 ∷ 0 ∷ 0 ∷ 0 ∷ []) l))))

unfoldable pub fresh_prices : List ℕ → List ℕ
fresh_prices l = in_each_block price_width (λ five. 0 ∷ 1 ∷ most_price ∷ 0 ∷ 0 ∷ []) contract_count l

unfoldable pub fresh_rows : ℕ → List ℤ → List ℤ
fresh_rows n l = in_each_block row_width (over 0 (replicate n (pos 0))) contract_count l

unfoldable pub fresh : Header → Tables → Tables
fresh h t =
    with_head (fresh_head h t.head)
    (with_prices (fresh_prices t.prices) (with_rows (fresh_rows h.members t.lots) (fresh_rows h.members t.value) t))
