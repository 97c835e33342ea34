-- Deals as a column keeps them: three places for each, the resting member, the resting price and the lots.
use Rattle.std.specs.Prelude.{ℕ, ◌+◌, ◌*◌, ◌<◌, ◌≡◌, List, [], ◌∷◌, map, get_or}
use Rattle.arith.specs.Lists.{from}
use Rattle.rules.specs.declared.order.Order.{Order}
use Rattle.rules.specs.Ledger.{Line, order_at}
use Rattle.rules.specs.Sides.{signed, other_side}
use Rattle.rules.specs.Matching.{Deal}
use Rattle.matching.specs.declared.deals.Counterparty.{Counterparty}

abbrev pub counterparty : Order → ℕ → Counterparty
counterparty r q = record { member = r.member; price = r.price; lots = record { 0 = q } }

abbrev pub counterparty_of : Deal → Counterparty
counterparty_of d = counterparty d.resting d.lots

abbrev pub deal_width : ℕ
deal_width = 3

abbrev pub deal_places : Counterparty → List ℕ
deal_places d = d.member ∷ d.price.0 ∷ d.lots.0 ∷ []

abbrev pub deal_at : List ℕ → ℕ → Counterparty
deal_at l k =
    record {
      member = get_or l (k * deal_width) 0;
      price = record { 0 = get_or l (k * deal_width + 1) 0 };
      lots = record { 0 = get_or l (k * deal_width + 2) 0 };
    }

-- The first n deals of a column.
unfoldable pub deals_in : ℕ → List ℕ → List Counterparty
deals_in n l = map (deal_at l) (from 0 n)

-- The two lines of a deal: the incoming member's, then the resting member's.
abbrev pub line_in : Order → Counterparty → Line
line_in o d = record { member = o.member; contract = o.contract; lots = signed o.side d.lots.0; price = d.price.0 }

abbrev pub line_out : Order → Counterparty → Line
line_out o d = record { member = d.member; contract = o.contract; lots = signed (other_side o.side) d.lots.0; price = d.price.0 }

abbrev pub lines_with : Order → Counterparty → List Line
lines_with o d = line_in o d ∷ line_out o d ∷ []

-- The other party is the member of an order of the book's first n places, at that order's price.
pub record FromBook (book : List ℕ) (n : ℕ) (d : Counterparty) : Type 0 where
  pub place : ℕ
  pub below : place < n
  pub member : d.member ≡ (order_at book place).member
  pub price : d.price.0 ≡ (order_at book place).price.0
