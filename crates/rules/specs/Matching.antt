-- Document 01, "Matching" (001, articles 7 to 9).
use Rattle.std.specs.Prelude.{ℕ, zero, suc, ◌+◌, ◌*◌, ◌-◌, min, Bool, true, false, cond, ◌&&◌, ◌||◌, eqb, leb, ltb, length, ℤ, pos, neg_ℤ, ◌+ℤ◌}
use mathlib.Core.List.{List, [], ◌∷◌, ◌++◌, flat_map}
use Rattle.std.proofs.Math.Option.{Option, none, some}
use Rattle.std.specs.Int.Signed.{lt_z}
use Rattle.arith.specs.Lists.{kept, total}
use Rattle.rules.specs.declared.event.OrderKind.{OrderKind}
use Rattle.rules.specs.declared.event.OrderKind.TheVariants.{Resting, Oeye, Teye}
use Rattle.rules.specs.declared.event.Submission.{Submission}
use Rattle.rules.specs.declared.order.Order.{Order}
use Rattle.rules.specs.declared.order.Side.{Side}
use Rattle.rules.specs.declared.order.Side.TheVariants.{Buy, Sell}
use Rattle.rules.specs.Sides.{same_side, other_side, signed}
use Rattle.rules.specs.Answers.{Outcome}
use Rattle.rules.specs.Ledger.{Tables, Line, with_head, with_prices, with_dealt, with_accepted_submits, with_submits_this_second, day, time, accepted_submits, limit}
use Rattle.rules.specs.Ledger.{submits_this_second, day_lots, day_value, lots_at, resting, with_orders, booked, timed}

-- ---- priority
-- For who deals with a side: of buys the higher price is better, of sells the lower.
abbrev pub better_price : Side → ℕ → ℕ → Bool
better_price Buy p q = ltb q p
better_price Sell p q = ltb p q

-- Best price first, then lower number.
unfoldable pub precedes : Order → Order → Bool
precedes a b = better_price a.side a.price.0 b.price.0 || eqb a.price.0 b.price.0 && ltb a.number b.number

-- Of an order and the best of some others, the one that precedes.
abbrev pub better : Order → Option Order → Option Order
better o none = some o
better o (some b) = cond (precedes b o) (some b) (some o)

-- The best of the orders that pass a test; they are of one side.
unfoldable pub best : (Order → Bool) → List Order → Option Order
best p [] = none
best p (o ∷ os) = let rest = best p os in cond (p o) (better o rest) rest

-- ---- deals
-- The resting order has the incoming one's contract and the other side.
unfoldable pub opposes : Order → Order → Bool
opposes o r = eqb r.contract o.contract && same_side r.side (other_side o.side)

-- The resting price q meets the incoming price p: a buy pays p at most, a sell takes p at least.
abbrev pub meets_price : Side → ℕ → ℕ → Bool
meets_price Buy p q = leb q p
meets_price Sell p q = leb p q

unfoldable pub meets : Order → Order → Bool
meets o r = meets_price o.side o.price.0 r.price.0

abbrev pub with_lots : ℕ → Order → Order
with_lots q o =
    record {
      number = o.number;
      member = o.member;
      contract = o.contract;
      side = o.side;
      price = o.price;
      lots = record { 0 = q };
      day = o.day;
      time = o.time;
    }

-- The orders after q lots of the order with that number are used: a remainder keeps its priority.
unfoldable pub used : ℕ → ℕ → List Order → List Order
used n q [] = []
used n q (o ∷ os) =
    let rest = used n q os in
    cond (eqb o.number n) (cond (leb o.lots.0 q) rest (with_lots (o.lots.0 - q) o ∷ rest)) (o ∷ rest)

-- A deal with a resting order, at the resting price.
pub record Deal : Type 0 where
  pub resting : Order
  pub lots : ℕ

-- What matching leads to: the deals in their order, what is left of the incoming order, and the orders that rest.
pub record Matched : Type 0 where
  pub deals : List Deal
  pub left : ℕ
  pub resting : List Order

abbrev pub stopped : Order → List Order → Matched
stopped o os = record { deals = []; left = o.lots.0; resting = os }

abbrev pub after_deal : Deal → Matched → Matched
after_deal d m = record { deals = d ∷ m.deals; left = m.left; resting = m.resting }

-- Deal after deal with the best resting order, at most n of them. Matching stops when nothing is left, when no order
-- opposes, or at the first resting order whose price does not meet the incoming one.
unfoldable pub matching : ℕ → Order → List Order → Matched
matching zero o os = stopped o os
matching (suc n) o os =
    elim (best (opposes o) os) [
      | none ↦ stopped o os
      | some r ↦
          let q = min o.lots.0 r.lots.0 in
          let rest = after_deal (record { resting = r; lots = q }) (matching n (with_lots (o.lots.0 - q) o) (used r.number q os)) in
          cond (ltb 0 o.lots.0 && meets o r) rest (stopped o os)
    ]

-- A deal uses up an order or leaves nothing, so there are no more deals than orders.
unfoldable pub matched : Order → List Order → Matched
matched o os = matching (length os) o os

-- Each deal prints the incoming member's line, then the resting member's.
abbrev pub deal_lines : Order → Deal → List Line
deal_lines o d =
    record { member = o.member; contract = o.contract; lots = signed o.side d.lots; price = d.resting.price.0 }
    ∷ record { member = d.resting.member; contract = o.contract; lots = signed (other_side o.side) d.lots; price = d.resting.price.0 }
    ∷ []

-- ---- submit
-- Its order number is the accepted submits before it.
abbrev pub incoming : Tables → Submission → Order
incoming t e =
    record {
      number = accepted_submits t;
      member = e.member;
      contract = e.contract;
      side = e.side;
      price = e.price;
      lots = e.lots;
      day = record { 0 = day t };
      time = e.time;
    }

unfoldable pub submit_matched : Tables → Submission → Matched
submit_matched t e = matched (incoming t e) (resting t)

unfoldable pub submit_lines : Tables → Submission → List Line
submit_lines t e = flat_map (deal_lines (incoming t e)) (submit_matched t e).deals

abbrev pub is_resting : OrderKind → Bool
is_resting Resting = true
is_resting Oeye = false
is_resting Teye = false

abbrev pub is_teye : OrderKind → Bool
is_teye Resting = false
is_teye Oeye = false
is_teye Teye = true

-- Something is left of the order, and it rests.
unfoldable pub would_rest : Tables → Submission → Bool
would_rest t e = is_resting e.kind && ltb 0 (submit_matched t e).left

-- The member's accepted submits that bear this time on this day.
unfoldable pub submits_at : Tables → ℕ → ℕ → ℕ
submits_at t s m = cond (ltb (time t) s) 0 (submits_this_second t m)

-- The member's resting lots of that contract and side.
unfoldable pub resting_lots : Tables → ℕ → ℕ → Side → ℕ
resting_lots t m c s = total (λ o. o.lots.0) (kept (λ o. eqb o.member m && (eqb o.contract c && same_side o.side s)) (resting t))

-- A sell's net lots are those of the mirrored position.
abbrev pub mirrored : Side → ℤ → ℤ
mirrored Buy z = z
mirrored Sell z = neg_ℤ z

-- In that contract, net lots + own resting buys + new buy above the member's limit; mirrored for a sell.
unfoldable pub above_limit : Tables → Submission → Bool
above_limit t e =
    let own = resting_lots t e.member e.contract e.side in
    lt_z (pos (limit t e.member)) (mirrored e.side (lots_at t e.contract e.member) +ℤ (pos own +ℤ pos e.lots.0))

-- The orders of the table once it is booked: what rests after its deals, which is the whole table, and itself if it rests.
unfoldable pub submit_orders : Tables → Submission → List Order
submit_orders t e =
    let m = submit_matched t e in
    cond (would_rest t e) (m.resting ++ (with_lots m.left (incoming t e) ∷ [])) m.resting

-- M and V grow by each deal's lots and lots times price, each deal counted once.
unfoldable pub with_deals : ℕ → List Deal → Tables → Tables
with_deals c ds t =
    with_prices
    (with_dealt c (day_lots t c + total (λ d. d.lots) ds) (day_value t c + total (λ d. d.lots * d.resting.price.0) ds) t.prices)
    t

-- One more accepted submit, and one more of the member in the present second.
unfoldable pub counted : ℕ → Tables → Tables
counted m t = with_head (with_accepted_submits (accepted_submits t + 1) (with_submits_this_second m (submits_this_second t m + 1) t.head)) t

unfoldable pub submit_booked : Tables → Submission → Outcome Tables
submit_booked t e =
    booked (submit_lines t e)
    (with_orders (submit_orders t e) (with_deals e.contract (submit_matched t e).deals (counted e.member (timed e.time t))))
