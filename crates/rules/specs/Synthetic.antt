-- Document 01, "Synthetic matching" (001, article 10).
use Rattle.std.specs.Prelude.{ℕ, ◌+◌, ◌*◌, Bool, false, cond, not, ◌&&◌, ◌||◌, List, [], ◌∷◌, map, eqb, leb, length}
use Rattle.std.proofs.Math.Option.{Option, none, some}
use Rattle.arith.specs.Lists.{every, any, kept, total, from, all_of}
use Rattle.rules.specs.declared.event.Leg.{Leg}
use Rattle.rules.specs.declared.order.Order.{Order}
use Rattle.rules.specs.declared.order.Side.{Side}
use Rattle.rules.specs.declared.order.Side.TheVariants.{Buy, Sell}
use Rattle.rules.specs.Answers.{Outcome}
use Rattle.rules.specs.Ranges.{months_in_span}
use Rattle.rules.specs.Days.{Calendar, first_month, month_start}
use Rattle.rules.specs.ContractTerms.{holds_hour}
use Rattle.rules.specs.Header.{rising}
use Rattle.rules.specs.Ledger.{Tables, Line, calendar, low, high, orders, resting, with_orders, booked}
use Rattle.rules.specs.Sides.{same_side, signed}
use Rattle.rules.specs.Matching.{precedes, used}

-- ---- the orders that the legs name
unfoldable pub numbered : ℕ → List Order → Option Order
numbered n [] = none
numbered n (o ∷ os) = let rest = numbered n os in cond (eqb o.number n) (some o) rest

-- A leg with the resting order that it names.
pub record Named : Type 0 where
  pub leg : Leg
  pub order : Order

-- Each leg with its order, as far as there is one.
unfoldable pub named_legs : List Order → List Leg → List Named
named_legs os [] = []
named_legs os (g ∷ gs) = elim (numbered g.order os) [ none ↦ named_legs os gs | some o ↦ record { leg = g; order = o } ∷ named_legs os gs ]

-- ---- what they must meet
abbrev pub has_lots : Named → Bool
has_lots n = leb n.leg.lots.0 n.order.lots.0

-- A sell leg's price is from its order's price to the contract's high; a buy leg's from the low to its order's price.
abbrev pub price_within : Tables → Side → Named → Bool
price_within t Sell n = leb n.order.price.0 n.leg.price.0 && leb n.leg.price.0 (high t n.order.contract)
price_within t Buy n = leb (low t n.order.contract) n.leg.price.0 && leb n.leg.price.0 n.order.price.0

unfoldable pub price_allowed : Tables → Named → Bool
price_allowed t n = price_within t n.order.side n

-- At least two different ones occur.
unfoldable pub two_occur : (Named → ℕ) → List Named → Bool
two_occur f [] = false
two_occur f (n ∷ ns) = any (λ x. not (eqb (f x) (f n))) ns || two_occur f ns

-- What the legs of one side bring together in an hour.
unfoldable pub in_hour : Calendar → (Named → ℕ) → Side → ℕ → List Named → ℕ
in_hour k f s h ns = total f (kept (λ n. same_side n.order.side s && holds_hour k n.order.contract h) ns)

abbrev pub leg_lots : Named → ℕ
leg_lots n = n.leg.lots.0

abbrev pub leg_value : Named → ℕ
leg_value n = n.leg.lots.0 * n.leg.price.0

-- In an hour bought lots equal sold lots, and bought lots times price equal sold.
unfoldable pub balanced_in_hour : Calendar → List Named → ℕ → Bool
balanced_in_hour k ns h = eqb (in_hour k leg_lots Buy h ns) (in_hour k leg_lots Sell h ns) && eqb (in_hour k leg_value Buy h ns) (in_hour k leg_value Sell h ns)

-- In every hour of the six years. All hours of a month lie in the same contracts, so the first hour of each of the 72
-- months is tried; `balanced_every_hour` says that this is every hour.
unfoldable pub balanced : Calendar → List Named → Bool
balanced k ns = every (λ i. balanced_in_hour k ns (24 * month_start (first_month k + i))) (from 0 months_in_span)

-- The order is a leg in full.
unfoldable pub in_full : List Named → Order → Bool
in_full ns o = any (λ n. eqb n.leg.order o.number && eqb n.leg.lots.0 o.lots.0) ns

-- Every resting order of that contract and side with better priority is a leg in full.
unfoldable pub priority_kept : List Order → List Named → Named → Bool
priority_kept os ns n =
    every (λ o. not (eqb o.contract n.order.contract && (same_side o.side n.order.side && precedes o n.order)) || in_full ns o) os

-- A proposal is accepted exactly if all of this holds.
unfoldable pub acceptable : Tables → List Leg → Bool
acceptable t legs =
    let os = resting t in
    let ns = named_legs os legs in
    all_of
    -- numbers strictly rise
    (rising (map (λ g. g.order) legs)
    -- each names a resting order with at least those lots
    ∷ eqb (length ns) (length legs)
    ∷ every has_lots ns
    -- at least two members and two contracts occur
    ∷ two_occur (λ n. n.order.member) ns
    ∷ two_occur (λ n. n.order.contract) ns
    ∷ every (price_allowed t) ns
    ∷ balanced (calendar t) ns
    ∷ every (priority_kept os ns) ns
    ∷ [])

-- ---- what is booked
-- One line per leg, in order, at the leg's price.
abbrev pub leg_line : Named → Line
leg_line n =
    record {
      member = n.order.member;
      contract = n.order.contract;
      lots = signed n.order.side n.leg.lots.0;
      price = n.leg.price.0;
    }

unfoldable pub proposal_lines : Tables → List Leg → List Line
proposal_lines t legs = map leg_line (named_legs (resting t) legs)

unfoldable pub used_by_legs : List Leg → List Order → List Order
used_by_legs [] os = os
used_by_legs (g ∷ gs) os = used_by_legs gs (used g.order g.lots.0 os)

-- The legs' lots are taken from the table; its other orders stay.
unfoldable pub proposal_booked : Tables → List Leg → Outcome Tables
proposal_booked t legs = booked (proposal_lines t legs) (with_orders (used_by_legs legs (orders t)) t)
