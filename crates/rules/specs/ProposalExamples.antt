-- Document 01, "Synthetic matching": proposals that are accepted beside those that are not, computed.
use Rattle.std.specs.Prelude.{ℕ, ◌≡◌, refl, List, [], ◌∷◌, pos, negsuc}
use Rattle.rules.specs.declared.order.Side.TheVariants.{Buy, Sell}
use Rattle.rules.specs.Answers.{Outcome}
use Rattle.rules.specs.Ledger.{Tables, with_accepted_submits, with_day_limits, orders, with_orders, day_lots}
use Rattle.rules.specs.Refusals.{apply_spec}
use Rattle.rules.specs.Computed.{Printed, computed}
use Rattle.rules.specs.ExampleRecords.{proposal, monday, in_head, in_prices, order, line, accepted, refused, EachPrints}

-- A proposal of one lot of each of orders 0 to 3, at these prices.
abbrev pub ones : ℕ → ℕ → ℕ → ℕ → List ℕ
ones a b c d = proposal ((0, 1, a) ∷ (1, 1, b) ∷ (2, 1, c) ∷ (3, 1, d) ∷ [])

-- The first quarter of 2022 is bought by one member and its months sold by another; two more orders stand behind.
abbrev pub quarter_by : ℕ → ℕ → Tables
quarter_by b s =
    with_orders
    (order 0 b 18 Buy 31500 3 369 0
    ∷ order 1 s 22 Sell 31200 3 369 0
    ∷ order 2 s 23 Sell 30500 3 369 0
    ∷ order 3 s 24 Sell 30000 2 369 0
    ∷ order 4 s 24 Sell 30000 2 369 0
    ∷ [])
    (in_head (with_accepted_submits 5) monday)

abbrev pub used_in_part : Outcome Tables
used_in_part = apply_spec (quarter_by 0 1) (proposal ((0, 2, 31300) ∷ (1, 2, 31300) ∷ (2, 2, 31300) ∷ (3, 2, 31300) ∷ []))

abbrev pub four_lines : ℕ → Printed
four_lines p = accepted (line 0 18 (pos 1) p ∷ line 1 22 (negsuc 0) p ∷ line 1 23 (negsuc 0) p ∷ line 1 24 (negsuc 0) p ∷ [])

-- A high of 31400 for a month that is sold, met and passed; an hour whose legs differ in value; order 4 as a leg, without order
-- 3, which has better priority.
legs_of_a_quarter : EachPrints (in_prices (with_day_limits 24 1 31400) (quarter_by 0 1))
    ((ones 31400 31400 31400 31400, four_lines 31400)
    ∷ (ones 31401 31401 31401 31401, refused 13)
    ∷ (ones 31300 31300 31300 31301, refused 13)
    ∷ (proposal ((0, 1, 31300) ∷ (1, 1, 31300) ∷ (2, 1, 31300) ∷ (4, 1, 31300) ∷ []), refused 13)
    ∷ [])
unfolding computed
legs_of_a_quarter = refl

-- A high below the price of a buy leg, and a low above that of a sell leg, do not matter.
bounds_of_a_side : EachPrints (in_prices (with_day_limits 18 1 31299) (in_prices (with_day_limits 22 31301 1000000) (quarter_by 0 1)))
    ((ones 31300 31300 31300 31300, four_lines 31300) ∷ [])
unfolding computed
bounds_of_a_side = refl

-- An order of the other side need be no leg, even a sell of the quarter at a lower price than the buy that is one. Only lent tables have
-- such a pair: two submits would have met.
priority_of_a_side : EachPrints (with_orders (order 5 2 18 Sell 31400 1 369 0 ∷ orders (quarter_by 0 1)) (in_head (with_accepted_submits 6) monday))
    ((ones 31300 31300 31300 31300, four_lines 31300) ∷ [])
unfolding computed
priority_of_a_side = refl

-- Synthetic lots do not count in M.
synthetic_lots : (let t = used_in_part.after in day_lots t 18 ∷ day_lots t 22 ∷ []) ≡ 0 ∷ 0 ∷ []
unfolding computed
synthetic_lots = refl
