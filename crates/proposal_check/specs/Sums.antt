-- The legs' amounts summed by contract and side.
use Rattle.std.specs.Prelude.{ℕ, ◌+◌, ◌*◌, ◌≤◌, ◌<◌, ◌≡◌, Bool, cond, List, eqb, length, get_or}
use Rattle.arith.specs.Lists.{every, total, from}
use Rattle.rules.specs.declared.event.Leg.{Leg}
use Rattle.rules.specs.declared.order.Side.{Side}
use Rattle.rules.specs.declared.order.Side.TheVariants.{Buy, Sell}
use Rattle.rules.specs.Ranges.{months_in_span, most_lots, most_price, most_legs}
use Rattle.rules.specs.Ledger.{order_at}
use Rattle.rules.specs.OtherForms.{year_of, quarter_of, month_of}
use Rattle.proposal_check.specs.Legs.{no_leg}
use Rattle.proposal_check.specs.SidePlaces.{side_place, side_places, side_place_of}

-- Lots and value as one number: a lot is worth more in it than all legs' values together.
abbrev pub lot_unit : ℕ
lot_unit = 4294967296

unfoldable pub amount_of : Leg → ℕ
amount_of g = g.lots.0 * (lot_unit + g.price.0)

abbrev pub most_amount : ℕ
most_amount = most_lots * (lot_unit + most_price)

-- What the first n legs bring to a place.
unfoldable pub sum_at : List ℕ → List ℕ → List Leg → ℕ → ℕ → ℕ
sum_at book places legs n k = total (λ i. cond (eqb (side_place_of (order_at book (get_or places i 0))) k) (amount_of (get_or legs i no_leg)) 0) (from 0 n)

pub record SumsTo (book places : List ℕ) (legs : List Leg) (n : ℕ) (sums : List ℕ) : Type 0 where
  pub long : length sums ≡ side_places
  pub at : (k : ℕ) → k < side_places → get_or sums k 0 ≡ sum_at book places legs n k

-- Sums that can be added.
pub record SumsFit (sums : List ℕ) : Type 0 where
  pub long : length sums ≡ side_places
  pub most : (k : ℕ) → k < side_places → get_or sums k 0 ≤ most_legs * most_amount

-- The sums of a month's three contracts together.
abbrev pub month_sum : List ℕ → Side → ℕ → ℕ
month_sum sums s m = get_or sums (side_place (year_of m) s) 0 + get_or sums (side_place (quarter_of m) s) 0 + get_or sums (side_place (month_of m) s) 0

-- In every month the bought sum equals the sold one.
unfoldable pub balanced_sums : List ℕ → Bool
balanced_sums sums = every (λ m. eqb (month_sum sums Buy m) (month_sum sums Sell m)) (from 0 months_in_span)
