-- The last leg in priority of one contract and side. A resting order is ahead of some leg exactly if it is ahead of this one.
use Rattle.std.specs.Prelude.{ℕ, ◌≤◌, ◌<◌, ◌≡◌, Bool, not, ◌&&◌, ◌||◌, List, eqb, ltb, length, get_or}
use Rattle.arith.specs.Lists.{any}
use Rattle.rules.specs.declared.event.Leg.{Leg}
use Rattle.rules.specs.declared.order.Order.{Order}
use Rattle.rules.specs.Ranges.{contract_count, most_orders}
use Rattle.rules.specs.Ledger.{book_length, order_at}
use Rattle.order_priority.specs.Priority.{Ranked, rank_of}
use Rattle.proposal_check.specs.Legs.{is_full_leg}
use Rattle.proposal_check.specs.SidePlaces.{side_places, side_place_of}

-- Orders of the ledger's contracts that have ranks.
pub record OrdersRanked (count : ℕ) (book : List ℕ) : Type 0 where
  pub long : book_length ≤ length book
  pub most_orders_holds : count ≤ most_orders
  pub contract_below : (i : ℕ) → i < count → (order_at book i).contract < contract_count
  pub ranked : (i : ℕ) → i < count → Ranked (order_at book i)

-- Legs of such orders.
pub record LegsRanked (book places : List ℕ) : Type 0 where
  pub long : book_length ≤ length book
  pub below : (i : ℕ) → i < length places → get_or places i 0 < most_orders
  pub contract_below : (i : ℕ) → i < length places → (order_at book (get_or places i 0)).contract < contract_count
  pub ranked : (i : ℕ) → i < length places → Ranked (order_at book (get_or places i 0))

-- The order at a place of the book belongs to place k of a column and has a higher rank than x.
abbrev pub is_behind : List ℕ → ℕ → ℕ → ℕ → Bool
is_behind book k x p = eqb (side_place_of (order_at book p)) k && ltb x (rank_of (order_at book p))

-- A rank is below the last one of a contract and side exactly if it is below that of one of its legs.
pub record LastRanks (book places lasts : List ℕ) : Type 0 where
  pub long : length lasts ≡ side_places
  pub last : (k x : ℕ) → k < side_places → ltb x (get_or lasts k 0) ≡ any (is_behind book k x) places

-- An order of lower rank than the last one of its contract and side is a leg in full.
abbrev pub kept_by : List ℕ → List Leg → Order → Bool
kept_by lasts legs o = not (ltb (rank_of o) (get_or lasts (side_place_of o) 0)) || is_full_leg legs o
