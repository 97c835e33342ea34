-- The deals of a submit as code hands them on, and what the tables hold after them.
use Rattle.std.specs.Prelude.{ℕ, ◌+◌, ◌*◌, ◌≤◌, ◌<◌, ◌≡◌, true, length, get_or}
use mathlib.Core.List.{List, map, flat_map}
use Rattle.arith.specs.Lists.{over, total}
use Rattle.rules.specs.declared.order.Order.{Order}
use Rattle.rules.specs.Ranges.{contract_count, most_orders, most_lots, most_price, most_lots_run}
use Rattle.rules.specs.Ledger.{head_length, prices_length, book_length, day_lots_place, day_value_place, with_order_count, with_dealt}
use Rattle.rules.specs.Ledger.{side_at, order_at, order_places}
use Rattle.rules.specs.Matching.{matched}
use Rattle.rules.specs.Refusals.{distinct}
use Rattle.tables.specs.Fit.{order_count_in, orders_in}
use Rattle.matching.specs.declared.deals.Counterparty.{Counterparty}
use Rattle.matching.specs.declared.levels.Matched.{Matched}
use Rattle.order_priority.specs.Priority.{Ranked}
use Rattle.matching.specs.Deals.{deal_width, deal_at, deals_in, counterparty_of, FromBook}

abbrev pub lots_dealt : Counterparty → ℕ
lots_dealt d = d.lots.0

abbrev pub worth_of : Counterparty → ℕ
worth_of d = d.lots.0 * d.price.0

-- So many deals in a column, each at a price and for no more lots than an order has.
pub record DealColumnFit (count : ℕ) (deals : List ℕ) : Type 0 where
  pub room : most_lots * deal_width ≤ length deals
  pub most : count ≤ most_lots
  pub most_price_holds : (j : ℕ) → j < count → (deal_at deals j).price.0 ≤ most_price
  pub most_lots_holds : (j : ℕ) → j < count → (deal_at deals j).lots.0 ≤ most_lots

-- An order that can be matched with the book of a ledger.
pub record Tradable (head prices book : List ℕ) (o : Order) : Type 0 where
  pub head_long : head_length ≤ length head
  pub prices_long : prices_length ≤ length prices
  pub book_long : book_length ≤ length book
  pub most_orders_holds : order_count_in head ≤ most_orders
  pub contract_below : o.contract < contract_count
  pub least_lots : 1 ≤ o.lots.0
  pub most_lots_holds : o.lots.0 ≤ most_lots
  pub most_day_lots : get_or prices (day_lots_place o.contract) 0 ≤ most_lots_run
  pub most_day_value : get_or prices (day_value_place o.contract) 0 ≤ most_price * most_lots_run
  pub most_side : (i : ℕ) → i < order_count_in head → side_at book i ≤ 1
  pub ranked : (i : ℕ) → i < order_count_in head → Ranked (order_at book i)
  pub has_lots_holds : (i : ℕ) → i < order_count_in head → 1 ≤ (order_at book i).lots.0
  pub numbers_distinct : distinct (map (λ r. r.number) (orders_in (order_count_in head) book)) ≡ true

-- The tables after its deals, and the deals themselves.
pub record Traded (o : Order) (head prices book : List ℕ) (m : Matched) (head' prices' book' deals : List ℕ) : Type 0 where
  pub head_after : head' ≡ with_order_count (length (matched o (orders_in (order_count_in head) book)).resting) head
  pub prices-after :
      prices'
      ≡ with_dealt o.contract
      (get_or prices (day_lots_place o.contract) 0 + total (λ d. d.lots) (matched o (orders_in (order_count_in head) book)).deals)
      (get_or prices (day_value_place o.contract) 0 + total (λ d. d.lots * d.resting.price.0) (matched o (orders_in (order_count_in head) book)).deals)
      prices
  pub book_after_holds : book' ≡ over 0 (flat_map order_places (matched o (orders_in (order_count_in head) book)).resting) book
  pub deals_kept : map counterparty_of (matched o (orders_in (order_count_in head) book)).deals ≡ deals_in m.deals deals
  pub lots_left : (matched o (orders_in (order_count_in head) book)).left ≡ m.left.0
  pub few : m.deals ≤ most_lots
  pub from_book : (j : ℕ) → j < m.deals → FromBook book (order_count_in head) (deal_at deals j)
