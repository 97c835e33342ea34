-- What a deal writes in the columns, and where matching ends.
use Rattle.std.specs.Prelude.{ℕ, ◌*◌, ◌-◌, ◌≤◌, ◌<◌, min, ◌≡◌, cond, true, List, map, eqb, length, get_or, set, drop}
use Rattle.arith.specs.Lists.{over}
use Rattle.rules.specs.declared.order.Order.{Order}
use Rattle.rules.specs.Ranges.{most_lots, most_orders}
use Rattle.rules.specs.Ledger.{book_length, order_at}
use Rattle.rules.specs.Matching.{matched}
use Rattle.rules.specs.Refusals.{distinct}
use Rattle.matching.specs.declared.deals.Counterparty.{Counterparty}
use Rattle.tables.specs.Fit.{orders_in}
use Rattle.order_book.specs.Left.{left_over}
use Rattle.matching.specs.declared.levels.Matched.{Matched}
use Rattle.order_priority.specs.Priority.{Ranked}
use Rattle.matching.specs.Ranks.{no_rank}
use Rattle.matching.specs.Deals.{counterparty, counterparty_of, deal_width, deal_places, deal_at, deals_in, FromBook}

-- Deal k is with the order at i, for what is wanted or what is left of it; then so much is still wanted.
pub record DealMade (book : List ℕ) (k i wanted : ℕ) (left ranks deals : List ℕ) (still : ℕ) (left' ranks' deals' : List ℕ) : Type 0 where
  pub still_wanted : still ≡ wanted - min wanted (get_or left i 0)
  pub left_after_holds : left' ≡ set left i (get_or left i 0 - min wanted (get_or left i 0))
  pub ranks_after : ranks' ≡ cond (eqb (get_or left i 0 - min wanted (get_or left i 0)) 0) (set ranks i no_rank) ranks
  pub deals_after : deals' ≡ over (k * deal_width) (deal_places (counterparty (order_at book i) (min wanted (get_or left i 0)))) deals

-- An order to be matched with the sound orders of a book's first n places.
pub record Matchable (o : Order) (book : List ℕ) (n : ℕ) : Type 0 where
  pub least_lots : 1 ≤ o.lots.0
  pub most_lots_holds : o.lots.0 ≤ most_lots
  pub long : book_length ≤ length book
  pub most_orders_holds : n ≤ most_orders
  pub ranked : (i : ℕ) → i < n → Ranked (order_at book i)
  pub has_lots_holds : (i : ℕ) → i < n → 1 ≤ (order_at book i).lots.0
  pub numbers_distinct : distinct (map (λ r. r.number) (orders_in n book)) ≡ true

-- Where matching ends: its deals, what is left of the incoming order, and what is left of the others.
pub record Ended (o : Order) (os : List Order) (left : List ℕ) (x : ℕ) (ds : List Counterparty) : Type 0 where
  pub deals : map counterparty_of (matched o os).deals ≡ ds
  pub lots : (matched o os).left ≡ x
  pub resting : (matched o os).resting ≡ left_over left os

-- The same by the columns: what is left of each order, and the deals, behind which the column stays as it was.
pub record MatchMade (o : Order) (book : List ℕ) (n : ℕ) (deals : List ℕ) (m : Matched) (left' deals' : List ℕ) : Type 0 where
  pub ended : Ended o (orders_in n book) left' m.left.0 (deals_in m.deals deals')
  pub few : m.deals ≤ most_lots
  pub from_book : (j : ℕ) → j < m.deals → FromBook book n (deal_at deals' j)
  pub past : drop (m.deals * deal_width) deals' ≡ drop (m.deals * deal_width) deals
