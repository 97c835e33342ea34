-- Document 01, "Close of day": more of what a close prices and leaves, computed.
use Rattle.std.specs.Prelude.{ℕ, ◌≡◌, refl, List, [], ◌∷◌, ◌++◌, map, ℤ, pos, negsuc, Some}
use Rattle.arith.specs.Lists.{from}
use Rattle.rules.specs.declared.event.OrderKind.TheVariants.{Resting}
use Rattle.rules.specs.declared.order.Side.TheVariants.{Buy, Sell}
use Rattle.rules.specs.ContractTerms.{term_of, term_closing_day}
use Rattle.rules.specs.Ledger.{Tables, calendar, with_accepted_submits, with_lots_run, with_orders, day, time, submits_this_second, order_count, ggf, day_lots, day_value, lots_at, value_at, order_at}
use Rattle.rules.specs.Refusals.{apply_spec}
use Rattle.rules.specs.Computed.{tables_after, computed}
use Rattle.rules.specs.ExampleRecords.{submit, buy, sell, close, made, monday, in_head, held, order, bought, accepted, refused, Each, Prints}
use Rattle.rules.specs.CloseOfDayExamples.{Prices, orders_from, placed, closed}

-- ---- the GGF
-- V/M from 10, 20, 50 lots on, whatever is quoted; halves round up, less rounds down. One lot less, and no quote: the former GGF.
-- A contract that is not open keeps its own: the year 2021 has closed, the year 2026 is not among the first four.
ggf_of_deals_lem : Prices
    ((17, 25000, 10, 260005, [], 26001)
    ∷ (51, 25000, 10, 260004, [], 26000)
    ∷ (68, 25000, 10, 260000, (Buy, 20000, 10, 366, 0) ∷ (Sell, 21000, 10, 366, 0) ∷ [], 26000)
    ∷ (34, 25000, 9, 234000, [], 25000)
    ∷ (18, 25000, 20, 520000, [], 26000)
    ∷ (19, 25000, 19, 494000, [], 25000)
    ∷ (22, 25000, 50, 1300000, [], 26000)
    ∷ (23, 0, 49, 1274000, [], 0)
    ∷ (0, 25000, 10, 260000, [], 25000)
    ∷ (85, 25000, 10, 260000, [], 25000)
    ∷ [])
unfolding computed closed placed orders_from
ggf_of_deals_lem = refl

-- Below the threshold, with quotes: (6V + M(b+s))/(8M) if there are deals, (b+s)/2 if not, of the best buy and the best sell.
-- Without one of the two the former GGF.
ggf_of_quotes : Prices
    ((24, 25000, 20, 558000, (Buy, 27500, 50, 366, 0) ∷ (Sell, 27600, 50, 366, 0) ∷ [], 27813)
    ∷ (25, 25000, 0, 0, (Buy, 27500, 50, 366, 0) ∷ (Sell, 27601, 50, 366, 0) ∷ [], 27551)
    ∷ (6, 25000, 0, 0, (Buy, 27400, 50, 366, 0) ∷ (Buy, 27500, 50, 366, 0) ∷ (Sell, 27600, 50, 366, 0) ∷ (Sell, 27700, 50, 366, 0) ∷ [], 27550)
    ∷ (7, 25000, 0, 0, (Buy, 27500, 50, 366, 0) ∷ [], 25000)
    ∷ (8, 25000, 0, 0, (Sell, 27500, 50, 366, 0) ∷ [], 25000)
    ∷ [])
unfolding computed closed placed orders_from
ggf_of_quotes = refl

-- An order quotes from 10, 20, 50 lots on, if it entered on an earlier day, whenever, or at 35700 s at the latest.
which_orders_quote : Prices
    ((17, 0, 0, 0, (Buy, 27500, 10, 366, 0) ∷ (Sell, 27600, 10, 366, 0) ∷ [], 27550)
    ∷ (34, 0, 0, 0, (Buy, 27500, 9, 366, 0) ∷ (Sell, 27600, 10, 366, 0) ∷ [], 0)
    ∷ (18, 0, 0, 0, (Buy, 27500, 20, 366, 0) ∷ (Sell, 27600, 20, 366, 0) ∷ [], 27550)
    ∷ (19, 0, 0, 0, (Buy, 27500, 20, 366, 0) ∷ (Sell, 27600, 19, 366, 0) ∷ [], 0)
    ∷ (22, 0, 0, 0, (Buy, 27500, 50, 366, 0) ∷ (Buy, 27550, 49, 366, 0) ∷ (Sell, 27600, 50, 366, 0) ∷ [], 27550)
    ∷ (23, 0, 0, 0, (Buy, 27500, 50, 368, 86399) ∷ (Sell, 27600, 50, 369, 35700) ∷ [], 27550)
    ∷ (24, 0, 0, 0, (Buy, 27500, 50, 368, 86399) ∷ (Sell, 27600, 50, 369, 35701) ∷ [], 0)
    ∷ (25, 0, 0, 0, (Buy, 27500, 50, 368, 86399) ∷ (Sell, 27600, 50, 370, 0) ∷ [], 0)
    ∷ [])
unfolding computed closed placed orders_from
which_orders_quote = refl

-- Orders enter with the ledger's day and their own time, not the ledger's before them: a buy at 35000 s and a sell at 36000 s of Monday,
-- 300 s and 299 s before the close, and the day before.
entered_at : Each (λ rs. ggf (tables_after monday (submit 35000 Resting Buy 0 22 27500 50 ∷ sell 1 22 27601 50 ∷ rs)) 22)
    ((close 36300 ∷ [], 27551) ∷ (close 36299 ∷ [], 0) ∷ (close 36299 ∷ close 0 ∷ [], 27551) ∷ [])
unfolding computed
entered_at = refl

-- M and V, each deal counted once; a close leaves both 0, the time and the second's counts too, on the next business day.
abbrev figures : Tables → List ℕ
figures t = ggf t 17 ∷ day_lots t 17 ∷ day_value t 17 ∷ day t ∷ time t ∷ submits_this_second t 1 ∷ []

abbrev deals : List (List ℕ)
deals = sell 0 17 26000 5 ∷ sell 0 17 27000 5 ∷ buy 1 17 27000 10 ∷ []

-- M and V become 0 in a contract that is not open too.
closed_figures : (let t = closed ((0, 0, 10, 260000, [], 0) ∷ []) in day_lots t 0 ∷ day_value t 0 ∷ []) ≡ 0 ∷ 0 ∷ []
unfolding computed closed placed orders_from
closed_figures = refl

-- Tuesday, 370, is a holiday.
days_figures : Each (λ rs. figures (tables_after (made 2021 369 (370 ∷ []) (1000 ∷ 1000 ∷ [])) (deals ++ rs)))
    (([], 0 ∷ 10 ∷ 265000 ∷ 369 ∷ 36000 ∷ 1 ∷ []) ∷ (close 36000 ∷ [], 26500 ∷ 0 ∷ 0 ∷ 371 ∷ 0 ∷ 0 ∷ []) ∷ [])
unfolding computed
days_figures = refl

-- ---- closing contracts
-- Outside the span only weekends are no business days: in a ledger from 2021 on the year 2021 closed on Friday 25 December 2020.
closed_before_the_span : term_closing_day (calendar monday) (term_of 0) ≡ Some (record { 0 = 359 })
unfolding computed
closed_before_the_span = refl

-- Day 453 is the last of the second quarter and of April. Orders 0 to 3 are in the quarter, in April and, two, in the next
-- year: what stays moves up once, and places past it are untouched.
abbrev book_after : Tables → List ℕ
book_after t = let l = (apply_spec t (close 36000)).after in order_count l ∷ map (λ i. (order_at l.book i).number) (0 ∷ 1 ∷ 2 ∷ 3 ∷ [])

orders_that_close : book_after
    (with_orders
    (order 0 0 2 Buy 26000 1 453 0 ∷ order 1 0 8 Buy 26000 1 453 0 ∷ order 2 0 17 Buy 26000 1 453 0 ∷ order 3 0 17 Buy 26000 1 453 0 ∷ [])
    (in_head (with_accepted_submits 4) (made 2021 453 [] (1000 ∷ []))))
    ≡ 2 ∷ 2 ∷ 3 ∷ 2 ∷ 3 ∷ []
unfolding computed
orders_that_close = refl

-- A closing contract is open that day: its orders quote before they go.
closing_is_priced :
    ggf
    (apply_spec
    (with_orders (order 0 0 2 Buy 26000 20 452 0 ∷ order 1 0 2 Sell 26100 20 452 0 ∷ []) (in_head (with_accepted_submits 2) (made 2021 453 [] (1000 ∷ []))))
    (close 36000)
    ).after
    2
    ≡ 26050
unfolding computed
closing_is_priced = refl

-- Rows of members past the count are surplus: of two members the first's rows cascade, and the third's stay.
surplus_rows : Each
    (λ m. let t = (apply_spec (held ((0, 17, pos 7) ∷ (2, 17, pos 7) ∷ []) (in_head (with_lots_run 7) (made 2020 359 [] (1000 ∷ 1000 ∷ [])))) (close 0)).after in
    lots_at t 17 m ∷ lots_at t 18 m ∷ [])
    ((0, pos 0 ∷ pos 7 ∷ []) ∷ (2, pos 7 ∷ pos 0 ∷ []) ∷ [])
unfolding computed held
surplus_rows = refl

-- A sound table that no list of records leads to: 10 lots of the year and 10 of its quarter, and a lots run of 10. The close
-- is accepted and leaves 20 lots above the lots run.
damaged_by_a_close : Prints (held ((0, 17, pos 10) ∷ (0, 18, pos 10) ∷ []) (in_head (with_lots_run 10) (made 2020 359 [] (1000 ∷ []))))
    ((close 0, accepted []) ∷ (close 0, refused 1) ∷ [])
unfolding computed held
damaged_by_a_close = refl

-- A cascade carries a member past its limit of 5 lots; its next submit meets 9.
limit_passed_by_a_close : Prints (made 2020 359 [] (5 ∷ 1000 ∷ []))
    ((sell 1 17 26000 5, accepted [])
    ∷ (buy 0 17 26000 5, accepted (bought 0 1 17 5 26000))
    ∷ (sell 1 18 26000 5, accepted [])
    ∷ (buy 0 18 26000 5, accepted (bought 0 1 18 5 26000))
    ∷ (close 36000, accepted [])
    ∷ (buy 0 18 26000 1, refused 9)
    ∷ (buy 0 19 26000 1, refused 9)
    ∷ (sell 0 18 26000 15, accepted [])
    ∷ [])
unfolding computed
limit_passed_by_a_close = refl

-- ---- cascades
-- Lots that net to zero carry their value: member 0 bought 4 of the year 2021 at 30000 and sold 4 of its first quarter at 31000.
abbrev year_and_quarter : List (List ℕ)
year_and_quarter = sell 1 17 30000 4 ∷ buy 0 17 30000 4 ∷ buy 1 18 31000 4 ∷ sell 0 18 31000 4 ∷ []

-- Member 0's lots and value in these contracts, after so many closes: the first is of day 359, the year's closing day, the
-- third of 363, the quarter's.
abbrev rows_after : ℕ × List ℕ → List (ℤ × ℤ)
rows_after (n, cs) =
    let t = tables_after (made 2020 359 [] (1000 ∷ 1000 ∷ [])) (year_and_quarter ++ map (λ i. close 61200) (from 0 n)) in
    map (λ c. (lots_at t c 0, value_at t c 0)) cs

rows_that_cascade : Each rows_after
    (((1, 17 ∷ 18 ∷ 19 ∷ []), (pos 0, pos 0) ∷ (pos 0, negsuc 3999) ∷ (pos 4, pos 120000) ∷ [])
    ∷ ((3, 18 ∷ 22 ∷ 24 ∷ []), (pos 0, pos 0) ∷ (pos 0, negsuc 3999) ∷ (pos 0, negsuc 3999) ∷ [])
    ∷ [])
unfolding computed
rows_that_cascade = refl
