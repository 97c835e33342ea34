-- Priority as one number: of two orders of one contract and side, both Ranked, the one of lower rank comes first.
use Rattle.std.specs.Prelude.{ℕ, ◌+◌, ◌*◌, ◌-◌, ◌≤◌, ◌<◌}
use Rattle.rules.specs.declared.order.Order.{Order}
use Rattle.rules.specs.declared.order.Side.{Side}
use Rattle.rules.specs.declared.order.Side.TheVariants.{Buy, Sell}
use Rattle.rules.specs.Ranges.{most_price, order_numbers_end}

-- An order of no more than the highest price whose number is a u32.
pub record Ranked (r : Order) : Type 0 where
  pub price : r.price.0 ≤ most_price
  pub number : r.number < order_numbers_end

abbrev pub price_rank : Side → ℕ → ℕ
price_rank Buy p = most_price - p
price_rank Sell p = p

-- Best price first, then lower number.
unfoldable pub rank_of : Order → ℕ
rank_of r = price_rank r.side r.price.0 * order_numbers_end + r.number
