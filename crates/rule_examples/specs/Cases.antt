-- Document 01, "Cases from the slides and ours": the cases marked *, proved together as one list of inputs and results.
use Rattle.std.specs.Prelude.{ℕ, ◌*◌, ◌≡◌, refl, List, [], ◌∷◌, ◌++◌, map, ℤ, pos, Some, None}
use Rattle.std.proofs.Math.Option.{Option, none, some}
use Rattle.arith.specs.Lists.{total, from}
use Rattle.rules.specs.declared.contract.ContractKind.TheVariants.{Month}
use Rattle.rules.specs.declared.order.Order.{Order}
use Rattle.rules.specs.declared.order.Side.{Side}
use Rattle.rules.specs.declared.order.Side.TheVariants.{Buy, Sell}
use Rattle.rules.specs.Answers.{reply_of}
use Rattle.rules.specs.ContractTerms.{threshold_of, term_of, term_closing_day}
use Rattle.rules.specs.Ledger.{Tables, lots_at, value_at}
use Rattle.rules.specs.CloseOfDay.{price_of_day}
use Rattle.rules.specs.Default.{minimums, dealt_out}
use Rattle.rules.specs.Refusals.{apply_spec}
use Rattle.rules.specs.Computed.{tables_after, computed}
use Rattle.rules.specs.ExampleRecords.{buy, sell, proposal, close, made, order}

-- What a case computes, and from which numbers.
data Input : Type 0 where
  -- the closing day of a contract in a ledger with that first year and no holidays
  closing : ℕ → ℕ → Input
  -- the GGF of a month that dealt these lots at these prices, without quotes; with the best quotes b and s
  ggf_of_deals : List (ℕ × ℕ) → Input
  ggf_with_quotes : List (ℕ × ℕ) → ℕ → ℕ → Input
  -- lots and value of member 0 in a contract: bought 4 lots at 30000 in 17, sold 1 at 31000 in 18, in a ledger of
  -- first year 2020 that starts on day 359, after so many closes of day
  cascade : ℕ → ℕ → Input
  -- the number that a proposal gets: a quarter bought at 31000, its months sold at 31000, 30500 and 30000, legs at these prices
  proposed : ℕ → ℕ → ℕ → ℕ → Input
  -- L lots dealt out by these weights: the minimums, and what is received
  least : ℕ → List ℕ → Input
  received : ℕ → List ℕ → Input

-- ---- how it is computed
quote : Side → ℕ → Option Order
quote side p = some (order 0 0 5 side p 50 0 0)

day_price : List (ℕ × ℕ) → Option Order → Option Order → ℕ
day_price deals b s = price_of_day (threshold_of Month) (total (λ d. d.0) deals) (total (λ d. d.0 * d.1) deals) 0 b s

-- First year 2020, day 359, after these records.
after : List (List ℕ) → Tables
after rs = tables_after (made 2020 359 [] (1000 ∷ 1000 ∷ [])) rs

cascade_after : ℕ → Tables
cascade_after n = after ((sell 1 17 30000 4 ∷ buy 0 17 30000 4 ∷ buy 1 18 31000 1 ∷ sell 0 18 31000 1 ∷ []) ++ map (λ i. close 61200) (from 0 n))

-- A proposal of one lot of each order, at these prices.
proposal_number : ℕ → ℕ → ℕ → ℕ → ℕ
proposal_number a b c d =
    (reply_of
    (apply_spec
    (after (buy 0 18 31000 1 ∷ sell 1 22 31000 1 ∷ sell 1 23 30500 1 ∷ sell 1 24 30000 1 ∷ []))
    (proposal ((0, 1, a) ∷ (1, 1, b) ∷ (2, 1, c) ∷ (3, 1, d) ∷ []))
    ).answer
    ).number

result : Input → List ℤ
result (closing y c) = pos (elim (term_closing_day (record { first_year = y; holidays = [] }) (term_of c)) [ Some d ↦ d.0 | None ↦ 0 ]) ∷ []
result (ggf_of_deals deals) = pos (day_price deals none none) ∷ []
result (ggf_with_quotes deals b s) = pos (day_price deals (quote Buy b) (quote Sell s)) ∷ []
result (cascade n c) = let t = cascade_after n in lots_at t c 0 ∷ value_at t c 0 ∷ []
result (proposed a b c d) = pos (proposal_number a b c d) ∷ []
result (least l ws) = map pos (minimums l ws)
result (received l ws) = map pos (dealt_out l ws)

-- ---- the cases
cases : List (Input × List ℤ)
cases =
    -- closing days: year 2021 on 359; January and first quarter 2021 on 363; second quarter 453
    (closing 2020 17, pos 359 ∷ [])
    ∷ (closing 2020 22, pos 363 ∷ [])
    ∷ (closing 2020 18, pos 363 ∷ [])
    ∷ (closing 2020 19, pos 453 ∷ [])
    -- GGF
    ∷ (ggf_of_deals ((10, 27500) ∷ (15, 27700) ∷ (5, 27600) ∷ (20, 27900) ∷ []), pos 27730 ∷ [])
    ∷ (ggf_with_quotes ((20, 27900) ∷ []) 27500 27600, pos 27813 ∷ [])
    -- the first close is of day 359, the third of day 363
    ∷ (cascade 1 17, pos 0 ∷ pos 0 ∷ [])
    ∷ (cascade 1 18, pos 3 ∷ pos 89000 ∷ [])
    ∷ (cascade 1 19, pos 4 ∷ pos 120000 ∷ [])
    ∷ (cascade 1 20, pos 4 ∷ pos 120000 ∷ [])
    ∷ (cascade 1 21, pos 4 ∷ pos 120000 ∷ [])
    ∷ (cascade 3 22, pos 3 ∷ pos 89000 ∷ [])
    ∷ (cascade 3 23, pos 3 ∷ pos 89000 ∷ [])
    ∷ (cascade 3 24, pos 3 ∷ pos 89000 ∷ [])
    -- accepted with every leg at 31000, refused with any leg at 30900
    ∷ (proposed 31000 31000 31000 31000, pos 0 ∷ [])
    ∷ (proposed 30900 31000 31000 31000, pos 13 ∷ [])
    ∷ (proposed 31000 30900 31000 31000, pos 13 ∷ [])
    ∷ (proposed 31000 31000 30900 31000, pos 13 ∷ [])
    ∷ (proposed 31000 31000 31000 30900, pos 13 ∷ [])
    -- L = 10
    ∷ (least 10 (890 ∷ 435 ∷ 580 ∷ 310 ∷ []), pos 5 ∷ pos 2 ∷ pos 3 ∷ pos 2 ∷ [])
    ∷ (received 10 (890 ∷ 435 ∷ 580 ∷ 310 ∷ []), pos 3 ∷ pos 2 ∷ pos 3 ∷ pos 2 ∷ [])
    ∷ []

starred_cases : map (λ x. result x.0) cases ≡ map (λ x. x.1) cases
unfolding computed result cases quote day_price after cascade_after proposal_number
starred_cases = refl

-- ---- the slide of cascades has the same days, and two more: 28 June and 28 September 2021 for the third and the fourth quarter
slide_of_cascades : map result (closing 2020 17 ∷ closing 2020 18 ∷ closing 2020 19 ∷ closing 2020 20 ∷ closing 2020 21 ∷ [])
    ≡ (pos 359 ∷ []) ∷ (pos 363 ∷ []) ∷ (pos 453 ∷ []) ∷ (pos 544 ∷ []) ∷ (pos 636 ∷ []) ∷ []
unfolding computed result
slide_of_cascades = refl
