-- Document 01, "Matching" and the causes of a submit: more of what is accepted beside what is refused, computed.
use Rattle.std.specs.Prelude.{◌≡◌, refl, [], ◌∷◌, ◌++◌, map, get_or, replicate, pos}
use Rattle.arith.specs.Lists.{from}
use Rattle.rules.specs.declared.event.OrderKind.TheVariants.{Resting, Oeye, Teye}
use Rattle.rules.specs.declared.order.Side.TheVariants.{Buy, Sell}
use Rattle.rules.specs.Ledger.{lines_length, with_lines, with_accepted_submits, with_orders}
use Rattle.rules.specs.Refusals.{apply_spec}
use Rattle.rules.specs.Computed.{tables_after, computed}
use Rattle.rules.specs.ExampleRecords.{submit, buy, sell, cancel, limits, default, close, made, monday, in_head, with_defaulted, order, bought, sold, accepted, refused, refused_of, EachPrints, Prints}

-- The highest buy first, then the lower number; a remainder keeps its number.
priority_of_buys : Prints monday
    ((buy 0 17 26000 2, accepted [])
    ∷ (buy 1 17 26000 1, accepted [])
    ∷ (buy 1 17 26100 1, accepted [])
    ∷ (sell 2 17 26000 2, accepted (sold 2 1 17 1 26100 ++ sold 2 0 17 1 26000))
    ∷ (sell 2 17 26000 2, accepted (sold 2 0 17 1 26000 ++ sold 2 1 17 1 26000))
    ∷ [])
unfolding computed
priority_of_buys = refl

-- The lowest sell first, at its own price.
priority_of_sells : Prints monday
    ((sell 0 17 25900 2, accepted [])
    ∷ (sell 1 17 25900 1, accepted [])
    ∷ (sell 1 17 25800 1, accepted [])
    ∷ (buy 2 17 26000 2, accepted (bought 2 1 17 1 25800 ++ bought 2 0 17 1 25900))
    ∷ (buy 2 17 26000 2, accepted (bought 2 0 17 1 25900 ++ bought 2 1 17 1 25900))
    ∷ [])
unfolding computed
priority_of_sells = refl

-- Matching stops at the first price that does not meet. The rest of an OEYE is dropped, that of a resting order rests.
where_matching_stops : Prints monday
    ((sell 0 17 25900 1, accepted [])
    ∷ (sell 0 17 26000 1, accepted [])
    ∷ (submit 36000 Oeye Buy 1 17 25900 2, accepted (bought 1 0 17 1 25900))
    ∷ (sell 2 17 25900 1, accepted [])
    ∷ (buy 1 17 25900 2, accepted (bought 1 2 17 1 25900))
    ∷ (sell 2 17 25900 1, accepted (sold 2 1 17 1 25900))
    ∷ [])
unfolding computed
where_matching_stops = refl

-- TEYE: all or nothing.
teye : Prints monday
    ((sell 0 17 26000 2, accepted [])
    ∷ (submit 36000 Teye Buy 1 17 26000 3, refused 10)
    ∷ (submit 36000 Teye Buy 1 17 25999 2, refused 10)
    ∷ (submit 36000 Teye Buy 1 17 26000 2, accepted (bought 1 0 17 2 26000))
    ∷ [])
unfolding computed
teye = refl

-- A member meets its own order; nobody meets an order of another contract.
own_orders : Prints monday
    ((sell 0 18 25900 1, accepted [])
    ∷ (sell 0 17 26000 1, accepted [])
    ∷ (sell 1 17 26000 1, accepted [])
    ∷ (buy 0 17 26000 2, accepted (bought 0 0 17 1 26000 ++ bought 0 1 17 1 26000))
    ∷ [])
unfolding computed
own_orders = refl

-- A limit of 5 lots: own resting orders of that contract and side count, and nothing else that rests.
limit_with_resting_orders : Prints (made 2021 369 [] (5 ∷ 1000 ∷ []))
    ((buy 1 17 25000 100, accepted [])
    ∷ (buy 0 17 26000 3, accepted [])
    ∷ (buy 0 17 26000 3, refused 9)
    ∷ (buy 0 17 26000 2, accepted [])
    ∷ (sell 0 17 27000 6, refused 9)
    ∷ (sell 0 17 27000 5, accepted [])
    ∷ (buy 0 18 26000 5, accepted [])
    ∷ [])
unfolding computed
limit_with_resting_orders = refl

-- With 3 lots bought, 2 more may be bought and 8 sold; with 5 sold, none.
limit_with_net_lots : Prints (made 2021 369 [] (5 ∷ 1000 ∷ []))
    ((sell 1 17 26000 3, accepted [])
    ∷ (buy 0 17 26000 3, accepted (bought 0 1 17 3 26000))
    ∷ (buy 0 17 25000 3, refused 9)
    ∷ (sell 0 17 27000 9, refused 9)
    ∷ (sell 0 17 27000 8, accepted [])
    ∷ (buy 1 17 27000 8, accepted (bought 1 0 17 8 27000))
    ∷ (sell 0 17 27000 1, refused 9)
    ∷ [])
unfolding computed
limit_with_net_lots = refl

-- The sixth submit in a second, which is above the limit too, is 8; the next second begins at none.
-- A refused record leaves the time.
submits_in_a_second : Prints (made 2021 369 [] (10 ∷ 10 ∷ []))
    (map (λ i. (buy 0 17 26000 1, accepted [])) (from 0 5)
    ++ ((buy 0 17 26000 11, refused 8)
    ∷ (submit 36001 Resting Buy 0 17 26000 11, refused 9)
    ∷ (buy 1 17 26000 1, accepted [])
    ∷ (submit 36001 Resting Buy 0 17 26000 1, accepted [])
    ∷ (submit 36001 Resting Buy 0 17 26000 1, accepted [])
    ∷ (buy 1 17 26000 1, refused 4)
    ∷ []))
unfolding computed
submits_in_a_second = refl

-- A close of day ends the second, though the next day begins at the same time.
submits_after_a_close : Prints monday
    (map (λ i. (submit 0 Oeye Buy 0 17 26000 1, accepted [])) (from 0 5)
    ++ ((submit 0 Oeye Buy 0 17 26000 1, refused 8) ∷ (close 0, accepted []) ∷ (submit 0 Oeye Buy 0 17 26000 1, accepted []) ∷ []))
unfolding computed
submits_after_a_close = refl

-- A defaulted member submits no more, and its orders are gone.
after_a_default : Prints monday
    ((sell 0 17 26000 1, accepted [])
    ∷ (sell 1 17 26000 1, accepted [])
    ∷ (default 1, accepted [])
    ∷ (sell 1 17 26000 1, refused_of 5 1)
    ∷ (buy 2 17 26000 2, accepted (bought 2 0 17 1 26000))
    ∷ [])
unfolding computed
after_a_default = refl

-- Every order of a lent table rests: a defaulted member's meets a buy, one of January 2021, which has closed, can be cancelled.
lent_orders_rest : EachPrints
    (with_defaulted (1 ∷ [])
    (with_orders (order 0 1 17 Sell 26000 1 369 0 ∷ order 1 0 5 Sell 26000 1 369 0 ∷ []) (in_head (with_accepted_submits 2) monday)))
    ((buy 2 17 26000 1, accepted (bought 2 1 17 1 26000)) ∷ (cancel 36000 0 1, accepted []) ∷ [])
unfolding computed with_defaulted
lent_orders_rest = refl

-- An order number is the count of accepted submits before it, OEYE and all. A cancel takes one order of that member.
cancels : Prints monday
    ((submit 36000 Oeye Sell 0 17 26000 1, accepted [])
    ∷ (sell 0 17 26000 1, accepted [])
    ∷ (sell 0 17 26000 2, accepted [])
    ∷ (cancel 36000 0 0, refused 12)
    ∷ (cancel 36000 1 1, refused 12)
    ∷ (cancel 36001 0 1, accepted [])
    ∷ (buy 1 17 26000 1, refused 4)
    ∷ (submit 36001 Resting Buy 1 17 26000 3, accepted (bought 1 0 17 2 26000))
    ∷ [])
unfolding computed
cancels = refl

-- Low and high bound what is submitted, each contract's its own; what rests outside them stays, and deals.
day_limits_lem : Prints monday
    ((buy 0 17 26000 1, accepted [])
    ∷ (limits 17 24000 25000, accepted [])
    ∷ (sell 1 17 25001 1, refused 7)
    ∷ (buy 1 17 23999 1, refused 7)
    ∷ (buy 1 17 24000 1, accepted [])
    ∷ (buy 1 18 25001 1, accepted [])
    ∷ (sell 1 17 25000 1, accepted (sold 1 0 17 1 26000))
    ∷ [])
unfolding computed
day_limits_lem = refl

-- A deal prints two lines of four numbers; what is past them stays.
lines_past_the_count :
    (let l = (apply_spec (with_lines (replicate lines_length (pos 9)) (tables_after monday (sell 0 17 26000 1 ∷ []))) (buy 1 17 26000 1)).after.lines in
    map (λ i. get_or l i (pos 0)) (0 ∷ 4 ∷ 7 ∷ 8 ∷ []))
    ≡ pos 1 ∷ pos 0 ∷ pos 26000 ∷ pos 9 ∷ []
unfolding computed
lines_past_the_count = refl
