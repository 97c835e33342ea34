-- What code may assume of lent tables that passed their tests: lengths, counts and ranges, table by table.
use Rattle.std.specs.Prelude.{ℕ, ◌+◌, ◌*◌, ◌≤◌, ◌<◌, ◌≡◌, true, List, map, length, get_or, take, drop, ℤ, pos, nat_abs}
use Rattle.arith.specs.Lists.{from}
use Rattle.rules.specs.declared.order.Order.{Order}
use Rattle.rules.specs.Ranges.{contract_count, most_members, most_orders, most_holidays, most_price, most_lots, most_limit, most_lots_run, most_accepted_submits, most_submits_in_second, last_second}
use Rattle.rules.specs.Days.{Calendar, in_span}
use Rattle.rules.specs.Header.{day_sound}
use Rattle.rules.specs.Ledger.{Tables, first_year_place, members_place, holiday_count_place, day_place, time_place, accepted_submits_place, lots_run_place, order_count_place, holidays_from}
use Rattle.rules.specs.Ledger.{limits_from, marks_from, submits_from, head_length, prices_length, rows_length, book_length, lines_length, ggf_place, low_place, high_place, day_lots_place}
use Rattle.rules.specs.Ledger.{day_value_place, row_place, side_at, order_at}
use Rattle.rules.specs.Refusals.{distinct}
use Rattle.months.specs.Bounds.{FirstYear}

abbrev pub members_in : List ℕ → ℕ
members_in head = get_or head members_place 0

abbrev pub accepted_in : List ℕ → ℕ
accepted_in head = get_or head accepted_submits_place 0

abbrev pub lots_run_in : List ℕ → ℕ
lots_run_in head = get_or head lots_run_place 0

abbrev pub order_count_in : List ℕ → ℕ
order_count_in head = get_or head order_count_place 0

abbrev pub calendar_in : List ℕ → Calendar
calendar_in head = record { first_year = get_or head first_year_place 0; holidays = take (get_or head holiday_count_place 0) (drop holidays_from head) }

-- A member's limit, mark and count in the present second.
pub record MemberFit (head : List ℕ) (m : ℕ) : Type 0 where
  pub most_limit_holds : get_or head (limits_from + m) 0 ≤ most_limit
  pub most_mark : get_or head (marks_from + m) 0 ≤ 1
  pub most_submits : get_or head (submits_from + m) 0 ≤ most_submits_in_second

pub record HeadFit (head : List ℕ) : Type 0 where
  pub long : head_length ≤ length head
  pub years : FirstYear (get_or head first_year_place 0)
  pub most_holidays_holds : get_or head holiday_count_place 0 ≤ most_holidays
  pub least_members : 1 ≤ members_in head
  pub most_members_holds : members_in head ≤ most_members
  pub today : day_sound (calendar_in head) (get_or head day_place 0) ≡ true
  pub most_time : get_or head time_place 0 ≤ last_second
  pub most_accepted : accepted_in head ≤ most_accepted_submits
  pub most_run : lots_run_in head ≤ most_lots_run
  pub most_orders_holds : order_count_in head ≤ most_orders
  pub member_fit : (m : ℕ) → m < members_in head → MemberFit head m

-- A contract's GGF, low and high, M and V beside a lots run.
pub record ContractFit (run : ℕ) (prices : List ℕ) (c : ℕ) : Type 0 where
  pub most_ggf : get_or prices (ggf_place c) 0 ≤ most_price
  pub least_low : 1 ≤ get_or prices (low_place c) 0
  pub low_high : get_or prices (low_place c) 0 ≤ get_or prices (high_place c) 0
  pub most_high : get_or prices (high_place c) 0 ≤ most_price
  pub most_day_lots : get_or prices (day_lots_place c) 0 ≤ run
  pub least_day_value : get_or prices (day_lots_place c) 0 ≤ get_or prices (day_value_place c) 0
  pub most_day_value : get_or prices (day_value_place c) 0 ≤ most_price * get_or prices (day_lots_place c) 0

pub record PricesFit (run : ℕ) (prices : List ℕ) : Type 0 where
  pub long : prices_length ≤ length prices
  pub contract_fit : (c : ℕ) → c < contract_count → ContractFit run prices c

-- No row of a member passes the bound.
pub record RowsFit (members bound : ℕ) (rows : List ℤ) : Type 0 where
  pub long : rows_length ≤ length rows
  pub within : (c m : ℕ) → c < contract_count → m < members → nat_abs (get_or rows (row_place c m) (pos 0)) ≤ bound

-- The order at place i of the book.
pub record OrderFit (head book : List ℕ) (i : ℕ) : Type 0 where
  pub number_below : (order_at book i).number < accepted_in head
  pub member_below : (order_at book i).member < members_in head
  pub contract_below : (order_at book i).contract < contract_count
  pub most_side : side_at book i ≤ 1
  pub least_price : 1 ≤ (order_at book i).price.0
  pub most_price_holds : (order_at book i).price.0 ≤ most_price
  pub least_lots : 1 ≤ (order_at book i).lots.0
  pub most_lots_holds : (order_at book i).lots.0 ≤ most_lots
  pub day_in_span : in_span (calendar_in head) (order_at book i).day.0 ≡ true
  pub most_time : (order_at book i).time ≤ last_second

-- The orders of the first n places.
abbrev pub orders_in : ℕ → List ℕ → List Order
orders_in n book = map (order_at book) (from 0 n)

pub record BookFit (head book : List ℕ) : Type 0 where
  pub long : book_length ≤ length book
  pub order_fit : (i : ℕ) → i < order_count_in head → OrderFit head book i
  pub numbers_distinct : distinct (map (λ o. o.number) (orders_in (order_count_in head) book)) ≡ true

-- So many orders that can be read, each with lots.
pub record OrdersFit (count : ℕ) (book : List ℕ) : Type 0 where
  pub most_orders_holds : count ≤ most_orders
  pub long : book_length ≤ length book
  pub most_side : (i : ℕ) → i < count → side_at book i ≤ 1
  pub least_lots : (i : ℕ) → i < count → 1 ≤ (order_at book i).lots.0

-- All lent tables.
pub record Fits (t : Tables) : Type 0 where
  pub head_fit : HeadFit t.head
  pub prices_fit : PricesFit (lots_run_in t.head) t.prices
  pub lots_fit : RowsFit (members_in t.head) (lots_run_in t.head) t.lots
  pub value_fit : RowsFit (members_in t.head) (most_price * lots_run_in t.head) t.value
  pub book_fit : BookFit t.head t.book
  pub lines_long : lines_length ≤ length t.lines
