-- Quotes and reference prices by columns, one number for each contract: the best price that quotes, 0 where none does.
use Rattle.std.specs.Prelude.{ℕ, ◌+◌, ◌*◌, ◌≤◌, ◌<◌, ◌≡◌, Bool, cond, ◌&&◌, ◌||◌, List, [], ◌∷◌, eqb, leb, ltb, length, get_or, set}
use Rattle.std.proofs.Math.Option.{Option, none, some}
use Rattle.rules.specs.declared.order.Order.{Order}
use Rattle.rules.specs.declared.order.Side.{Side}
use Rattle.rules.specs.Ranges.{contract_count, most_orders, most_price, most_lots_run, last_second}
use Rattle.rules.specs.ContractTerms.{threshold_of, kind_of}
use Rattle.rules.specs.Ledger.{prices_length, book_length, ggf_place, day_lots_place, day_value_place, side_at, order_at}
use Rattle.rules.specs.Sides.{same_side}
use Rattle.rules.specs.Matching.{better_price, best}
use Rattle.rules.specs.CloseOfDay.{entered_before, rounded_half_up}

-- The order quotes for its contract at a close on day d at second s.
unfoldable pub quotes_at : ℕ → ℕ → Side → Order → Bool
quotes_at d s side o = same_side o.side side && (entered_before d s o && leb (threshold_of (kind_of o.contract)) o.lots.0)

abbrev pub quote_of : Option Order → ℕ
quote_of none = 0
quote_of (some o) = o.price.0

-- The best price that quotes for a contract.
unfoldable pub best_price : ℕ → ℕ → Side → List Order → ℕ → ℕ
best_price d s side os c = quote_of (best (λ o. eqb o.contract c && quotes_at d s side o) os)

-- The better of a price and of the best so far, if there is one.
unfoldable pub better_quote : Side → ℕ → ℕ → ℕ
better_quote side p held = cond (eqb held 0 || better_price side p held) p held

-- The GGF from M, V, the former GGF and the best prices that quote.
unfoldable pub quoted_from : ℕ → ℕ → ℕ → ℕ → ℕ → ℕ
quoted_from m v former b s =
    cond (eqb b 0 || eqb s 0) former (cond (ltb 0 m) (rounded_half_up (6 * v + m * (b + s)) (8 * m)) (rounded_half_up (b + s) 2))

unfoldable pub price_from : ℕ → ℕ → ℕ → ℕ → ℕ → ℕ → ℕ
price_from threshold m v former b s = cond (leb threshold m) (rounded_half_up v m) (quoted_from m v former b s)

-- The GGF of a contract from the prices and the columns of quotes.
unfoldable pub ggf_from : List ℕ → List ℕ → List ℕ → ℕ → ℕ
ggf_from buys sells l c =
    price_from (threshold_of (kind_of c)) (get_or l (day_lots_place c) 0) (get_or l (day_value_place c) 0) (get_or l (ggf_place c) 0) (get_or buys c 0) (get_or sells c 0)

-- A new GGF for each of these contracts, one after the other.
unfoldable pub ggfs_from : List ℕ → List ℕ → List ℕ → List ℕ → List ℕ
ggfs_from buys sells [] l = l
ggfs_from buys sells (c ∷ cs) l = ggfs_from buys sells cs (set l (ggf_place c) (ggf_from buys sells l c))

-- Orders that can be read, each with lots.
pub record BookReads (count : ℕ) (book : List ℕ) : Type 0 where
  pub most_orders_holds : count ≤ most_orders
  pub long : book_length ≤ length book
  pub contract_below : (i : ℕ) → i < count → (order_at book i).contract < contract_count
  pub most_side : (i : ℕ) → i < count → side_at book i ≤ 1
  pub least_lots : (i : ℕ) → i < count → 1 ≤ (order_at book i).lots.0
  pub least_price : (i : ℕ) → i < count → 1 ≤ (order_at book i).price.0
  pub most_price_holds : (i : ℕ) → i < count → (order_at book i).price.0 ≤ most_price
  pub most_time : (i : ℕ) → i < count → (order_at book i).time ≤ last_second

-- Each contract's M and V as the damage test bounds them.
pub record DealsFit (prices : List ℕ) : Type 0 where
  pub long : prices_length ≤ length prices
  pub most_lots_holds : (c : ℕ) → c < contract_count → get_or prices (day_lots_place c) 0 ≤ most_lots_run
  pub most_value : (c : ℕ) → c < contract_count → get_or prices (day_value_place c) 0 ≤ most_price * most_lots_run

-- A column of prices, one for each contract.
pub record ColumnFit (column : List ℕ) : Type 0 where
  pub all : length column ≡ contract_count
  pub most : (c : ℕ) → c < contract_count → get_or column c 0 ≤ most_price
