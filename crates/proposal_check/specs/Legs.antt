-- A proposal's legs, and the resting orders that they name as places of the book.
use Rattle.std.specs.Prelude.{ℕ, suc, ◌*◌, ◌≤◌, ◌<◌, Bool, cond, ◌&&◌, List, [], ◌∷◌, map, eqb, length, get_or}
use Rattle.std.specs.List.{list_any}
use Rattle.arith.specs.Lists.{every, any, total, from}
use Rattle.rules.specs.declared.event.Leg.{Leg}
use Rattle.rules.specs.declared.order.Order.{Order}
use Rattle.rules.specs.declared.order.Side.{Side}
use Rattle.rules.specs.declared.order.Side.TheVariants.{Buy, Sell}
use Rattle.rules.specs.Ranges.{contract_count, months_in_span, most_lots, most_price, least_legs, most_legs}
use Rattle.rules.specs.Ledger.{book_length, order_at}
use Rattle.rules.specs.Sides.{same_side}
use Rattle.rules.specs.Matching.{precedes}
use Rattle.rules.specs.Synthetic.{Named}
use Rattle.rules.specs.OtherForms.{holds_month}
use Rattle.tables.specs.Fit.{orders_in}

-- What is read past the last leg.
abbrev pub no_leg : Leg
no_leg = record { order = 0; lots = record { 0 = 0 }; price = record { 0 = 0 } }

-- The number of a leg's order, its lots, its lots times price.
abbrev pub number_of : Leg → ℕ
number_of g = g.order

abbrev pub lots_of : Leg → ℕ
lots_of g = g.lots.0

abbrev pub value_of : Leg → ℕ
value_of g = g.lots.0 * g.price.0

-- 2 to 12 legs, each of 1 to 100 lots at a price of 1 to 1,000,000.
pub record LegsFit (legs : List Leg) : Type 0 where
  pub least_legs_holds : least_legs ≤ length legs
  pub most_legs_holds : length legs ≤ most_legs
  pub least_lots : (i : ℕ) → i < length legs → 1 ≤ (get_or legs i no_leg).lots.0
  pub most_lots_holds : (i : ℕ) → i < length legs → (get_or legs i no_leg).lots.0 ≤ most_lots
  pub least_price : (i : ℕ) → i < length legs → 1 ≤ (get_or legs i no_leg).price.0
  pub most_price_holds : (i : ℕ) → i < length legs → (get_or legs i no_leg).price.0 ≤ most_price

-- The place of the order with a number, or the count of orders where there is none.
unfoldable pub place_of : ℕ → List Order → ℕ
place_of n [] = 0
place_of n (o ∷ os) = let later = suc (place_of n os) in cond (eqb o.number n) 0 later

-- The place of each leg's order.
abbrev pub places_of : ℕ → List ℕ → List Leg → List ℕ
places_of count book legs = map (λ g. place_of g.order (orders_in count book)) legs

-- Each leg's order stands at a place below the count of orders.
pub record PlacesFit (count : ℕ) (places : List ℕ) : Type 0 where
  pub below : (i : ℕ) → i < length places → get_or places i 0 < count

-- Each leg's order is of one of the ledger's contracts.
pub record ContractsFit (book places : List ℕ) : Type 0 where
  pub long : book_length ≤ length book
  pub contract_below : (i : ℕ) → i < length places → (order_at book (get_or places i 0)).contract < contract_count

-- Leg i with the order that stands at its place.
abbrev pub named_at : List ℕ → List ℕ → List Leg → ℕ → Named
named_at book places legs i = record { leg = get_or legs i no_leg; order = order_at book (get_or places i 0) }

abbrev pub named_to : List ℕ → List ℕ → List Leg → List Named
named_to book places legs = map (named_at book places legs) (from 0 (length legs))

-- ---- balance
-- The order at a place is of a side and of a contract that holds a month.
abbrev pub counts_at : List ℕ → Side → ℕ → ℕ → Bool
counts_at book s m p = same_side (order_at book p).side s && holds_month (order_at book p).contract m

-- What the legs of one side bring together in a month; an amount of each leg, its lots or its lots times price.
unfoldable pub in_month : List ℕ → List ℕ → (Leg → ℕ) → List Leg → Side → ℕ → ℕ
in_month book places f legs s m = total (λ i. cond (counts_at book s m (get_or places i 0)) (f (get_or legs i no_leg)) 0) (from 0 (length legs))

-- In every month bought amounts equal sold ones.
unfoldable pub balanced_months : List ℕ → List ℕ → (Leg → ℕ) → List Leg → Bool
balanced_months book places f legs = every (λ m. eqb (in_month book places f legs Buy m) (in_month book places f legs Sell m)) (from 0 months_in_span)

-- ---- priority
-- Of the same contract and side, with better priority.
abbrev pub is_before : Order → Order → Bool
is_before a b = eqb a.contract b.contract && (same_side a.side b.side && precedes a b)

-- The order is before the order at a leg's place.
unfoldable pub is_ahead : List ℕ → List ℕ → Order → Bool
is_ahead book places o = any (λ p. is_before o (order_at book p)) places

-- The order is a leg in full.
abbrev pub is_full_leg : List Leg → Order → Bool
is_full_leg legs o = list_any (λ g. eqb g.order o.number && eqb g.lots.0 o.lots.0) legs
