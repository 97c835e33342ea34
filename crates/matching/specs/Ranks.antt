-- Ranks in a column: of the orders that an incoming one may meet, the first has the lowest rank.
use Rattle.std.specs.Prelude.{ℕ, ◌+◌, ◌*◌, ◌%◌, ◌≤◌, ◌<◌, ◌≡◌, cond, ◌&&◌, List, [], ◌∷◌, map, ltb, length, get_or}
use Rattle.rules.specs.declared.order.Order.{Order}
use Rattle.rules.specs.Ranges.{most_orders}
use Rattle.rules.specs.Matching.{opposes}
use Rattle.order_priority.specs.Priority.{rank_of}
use Rattle.matching.specs.Crossing.{crosses}

-- The rank of an order that the incoming one does not meet, for its contract or its side, or because it is used up.
abbrev pub no_rank : ℕ
no_rank = 18446744073709551615

unfoldable pub rank_in : Order → ℕ → Order → ℕ
rank_in o q r = cond (opposes o r && ltb 0 q) (rank_of r) no_rank

-- The ranks of orders of which so many lots are left.
unfoldable pub ranks_of : Order → List ℕ → List Order → List ℕ
ranks_of o [] os = []
ranks_of o (q ∷ qs) [] = []
ranks_of o (q ∷ qs) (r ∷ rs) = rank_in o q r ∷ ranks_of o qs rs

abbrev pub lots_of : Order → ℕ
lots_of r = r.lots.0

-- The ranks while nothing is used.
abbrev pub first_rank : Order → List Order → List ℕ
first_rank o os = ranks_of o (map lots_of os) os

-- The place of the lowest rank.
pub record Lowest (ranks : List ℕ) (i : ℕ) : Type 0 where
  pub below : i < length ranks
  pub some : get_or ranks i 0 < no_rank
  pub before : (j : ℕ) → j < i → get_or ranks i 0 < get_or ranks j 0
  pub behind : (j : ℕ) → j < length ranks → get_or ranks i 0 ≤ get_or ranks j 0

-- A rank with its place in its last digits to the base 256, so that the lowest of such ranks gives its place.
unfoldable pub placed_rank : ℕ → ℕ → ℕ
placed_rank i x = cond (ltb x no_rank) (x * most_orders + i) no_rank

-- The column of the ranks with their places, one for each place of the book; there is none behind the orders.
pub record Placed (ranks column : List ℕ) : Type 0 where
  pub long : length column ≡ most_orders
  pub placed : (i : ℕ) → i < most_orders → get_or column i 0 ≡ placed_rank i (get_or ranks i no_rank)

-- x is the lowest of the n numbers from place a on.
pub record LowestAmong (l : List ℕ) (a n x : ℕ) : Type 0 where
  pub least : (j : ℕ) → a ≤ j → j < a + n → x ≤ get_or l j 0
  pub place : ℕ
  pub from : a ≤ place
  pub below : place < a + n
  pub same : x ≡ get_or l place 0

-- The 256 places of the book make 16 blocks of 16 ranks.
abbrev pub block_size : ℕ
block_size = 16

abbrev pub block_count : ℕ
block_count = 16

-- The lowest rank of each block.
pub record BlockLows (column lows : List ℕ) : Type 0 where
  pub long : length lows ≡ block_count
  pub low : (b : ℕ) → b < block_count → LowestAmong column (b * block_size) block_size (get_or lows b 0)

-- No order has a rank.
pub record NoneRanked (lows : List ℕ) : Type 0 where
  pub low : ℕ
  pub lowest : LowestAmong lows 0 block_count low
  pub none : no_rank ≤ low

-- The place that the lowest rank of all gives.
pub record BestPlace (lows : List ℕ) (place : ℕ) : Type 0 where
  pub low : ℕ
  pub lowest : LowestAmong lows 0 block_count low
  pub some : low < no_rank
  pub given : place ≡ low % most_orders

-- The lots that cross where so many are left.
unfoldable pub crossing : Order → List ℕ → List Order → ℕ
crossing o [] os = 0
crossing o (q ∷ qs) [] = 0
crossing o (q ∷ qs) (r ∷ rs) = cond (crosses o r) q 0 + crossing o qs rs
