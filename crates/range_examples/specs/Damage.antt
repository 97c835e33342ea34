-- Document 01, "A table is damaged if": places of the tables, each with numbers that are sound there and numbers that are damage.
-- The places are those of docs/LAYOUT.md, and every number is written out by hand.
use Rattle.std.specs.Prelude.{ℕ, ◌≡◌, refl, true, false, List, [], ◌∷◌, ◌++◌, map, set, replicate, ℤ, pos, negsuc}
use Rattle.arith.specs.Lists.{from}
use Rattle.rules.specs.declared.order.Side.TheVariants.{Buy, Sell}
use Rattle.rules.specs.Ledger.{Tables, with_book, with_rows, with_accepted_submits, with_lots_run, with_ggf, with_day_limits, with_dealt, with_orders}
use Rattle.rules.specs.Refusals.{damaged}
use Rattle.rules.specs.Computed.{computed}
use Rattle.rules.specs.ExampleRecords.{made, monday, in_head, in_prices, order}

-- A place of a table that holds numbers without a sign.
data Place : Type 0 where
  head : ℕ → Place
  prices : ℕ → Place
  book : ℕ → Place

with_place : Place → ℕ → Tables → Tables
with_place (head i) n t = in_head (λ l. set l i n) t
with_place (prices i) n t = in_prices (λ l. set l i n) t
with_place (book i) n t = with_book (set t.book i n) t

-- ---- the ledgers
-- Monday, 369, three members, a lots run of 10. The year 2022 has a GGF, limits and 4 lots of the day. Orders 3 and 6 rest.
lent : Tables
lent =
    with_orders (order 3 2 17 Sell 27000 5 369 36000 ∷ order 6 0 101 Buy 26000 1 366 0 ∷ [])
    (in_prices (with_ggf 17 26000) (in_prices (with_day_limits 17 25000 27000) (in_prices (with_dealt 17 4 104000) (in_head (with_accepted_submits 7) (in_head (with_lots_run 10) monday)))))

-- Two holidays, Tuesday 5 January and 27 May 2021.
with_holidays : Tables
with_holidays = made 2021 369 (370 ∷ 512 ∷ []) (5 ∷ [])

-- 120 holidays, days 400 to 519. The place behind them has the limit of 1000 lots, which could be a further holiday.
with120_holidays : Tables
with120_holidays = made 2021 369 (from 400 120) (1000 ∷ [])

-- 257 sound orders in a longer book.
with257_orders : Tables
with257_orders = with_orders (map (λ n. order n 0 17 Sell 27000 1 369 0) (from 0 257)) (with_book (replicate 2056 0) (in_head (with_accepted_submits 257) monday))

-- ---- a ledger, a place, what is sound there, what is damage
ranges : List (Tables × Place × List ℕ × List ℕ)
ranges =
    -- first year 2020 to 2094; the day lies in the six years from 2095 on too
    (made 2020 1 [] (5 ∷ []), head 0, 2020 ∷ [], 2019 ∷ [])
    ∷ (made 2094 27396 [] (5 ∷ []), head 0, 2094 ∷ [], 2095 ∷ [])
    -- 1 to 32 members
    ∷ (monday, head 1, 1 ∷ 32 ∷ [], 0 ∷ 33 ∷ [])
    -- 0 to 120 holidays, strictly rising in the span, 366 to 2556; the ledger's day is none. A place past the count is surplus.
    ∷ (with120_holidays, head 2, 0 ∷ 120 ∷ [], 121 ∷ [])
    ∷ (with_holidays, head 8, 366 ∷ 511 ∷ [], 365 ∷ 369 ∷ 512 ∷ 513 ∷ [])
    ∷ (with_holidays, head 9, 371 ∷ 2556 ∷ [], 370 ∷ 2557 ∷ [])
    ∷ (with_holidays, head 10, 9999 ∷ [], [])
    -- day: in the span, no Saturday, no Sunday, no holiday
    ∷ (with_holidays, head 3, 366 ∷ 371 ∷ 2556 ∷ [], 365 ∷ 2557 ∷ 367 ∷ 368 ∷ 370 ∷ [])
    -- time, accepted submits (order 6 rests), lots run (4 lots of the day), orders
    ∷ (lent, head 4, 0 ∷ 86399 ∷ [], 86400 ∷ [])
    ∷ (lent, head 5, 7 ∷ 4000000000 ∷ [], 6 ∷ 4000000001 ∷ [])
    ∷ (lent, head 6, 4 ∷ 5000000 ∷ [], 3 ∷ 5000001 ∷ [])
    ∷ (with257_orders, head 7, 0 ∷ 256 ∷ [], 257 ∷ [])
    -- limit, mark and submits in the present second of the first and the last member; what a fourth has is surplus
    ∷ (lent, head 128, 0 ∷ 100000 ∷ [], 100001 ∷ [])
    ∷ (lent, head 130, 0 ∷ 100000 ∷ [], 100001 ∷ [])
    ∷ (lent, head 131, 100001 ∷ [], [])
    ∷ (lent, head 160, 0 ∷ 1 ∷ [], 2 ∷ [])
    ∷ (lent, head 162, 0 ∷ 1 ∷ [], 2 ∷ [])
    ∷ (lent, head 163, 2 ∷ [], [])
    ∷ (lent, head 192, 0 ∷ 5 ∷ [], 6 ∷ [])
    ∷ (lent, head 194, 0 ∷ 5 ∷ [], 6 ∷ [])
    ∷ (lent, head 195, 6 ∷ [], [])
    -- contract 17: GGF, low up to the high, high from the low on, M up to the lots run, V from M to 1,000,000 M
    ∷ (lent, prices 85, 0 ∷ 1000000 ∷ [], 1000001 ∷ [])
    ∷ (lent, prices 86, 1 ∷ 27000 ∷ [], 0 ∷ 27001 ∷ [])
    ∷ (lent, prices 87, 25000 ∷ 1000000 ∷ [], 24999 ∷ 1000001 ∷ [])
    ∷ (lent, prices 88, 1 ∷ 10 ∷ [], 0 ∷ 11 ∷ [])
    ∷ (lent, prices 89, 4 ∷ 4000000 ∷ [], 3 ∷ 4000001 ∷ [])
    -- the first and the last contract
    ∷ (lent, prices 0, 1000000 ∷ [], 1000001 ∷ [])
    ∷ (lent, prices 505, 1000000 ∷ [], 1000001 ∷ [])
    -- order 3: number, below 7 and not that of the other, member, contract, side, price, lots, day, of weekends too, time
    ∷ (lent, book 0, 0 ∷ 5 ∷ [], 6 ∷ 7 ∷ [])
    ∷ (lent, book 1, 0 ∷ 2 ∷ [], 3 ∷ [])
    ∷ (lent, book 2, 0 ∷ 101 ∷ [], 102 ∷ [])
    ∷ (lent, book 3, 0 ∷ 1 ∷ [], 2 ∷ [])
    ∷ (lent, book 4, 1 ∷ 1000000 ∷ [], 0 ∷ 1000001 ∷ [])
    ∷ (lent, book 5, 1 ∷ 100 ∷ [], 0 ∷ 101 ∷ [])
    ∷ (lent, book 6, 366 ∷ 367 ∷ 2556 ∷ [], 365 ∷ 2557 ∷ [])
    ∷ (lent, book 7, 0 ∷ 86399 ∷ [], 86400 ∷ [])
    -- order 6, the last: its number and its side; the place behind it is surplus
    ∷ (lent, book 8, 4 ∷ 6 ∷ [], 3 ∷ 7 ∷ [])
    ∷ (lent, book 11, 0 ∷ 1 ∷ [], 2 ∷ [])
    ∷ (lent, book 19, 2 ∷ [], [])
    ∷ []

damage_of_places : map (λ x. map (λ n. damaged (with_place x.1 n x.0)) (x.2 ++ x.3)) ranges
    ≡ map (λ x. map (λ n. false) x.2 ++ map (λ n. true) x.3) ranges
unfolding computed ranges lent with_holidays with120_holidays with257_orders with_place
damage_of_places = refl

-- ---- rows, with a sign: lots up to the lots run of 10 in absolute size, value up to 10,000,000
-- Of contract 17 and the first member, of the last contract and the last member, and of a fourth member, which is surplus.
sound_lots : List ℤ
sound_lots = pos 10 ∷ negsuc 9 ∷ []

damage_of_lots : List ℤ
damage_of_lots = pos 11 ∷ negsuc 10 ∷ []

sound_value : List ℤ
sound_value = pos 10000000 ∷ negsuc 9999999 ∷ []

damage_of_value : List ℤ
damage_of_value = pos 10000001 ∷ negsuc 10000000 ∷ []

damage_of_lots_lem : map (λ i. map (λ z. damaged (with_rows (set lent.lots i z) lent.value lent)) (sound_lots ++ damage_of_lots)) (544 ∷ 3234 ∷ 3235 ∷ [])
    ≡ (false ∷ false ∷ true ∷ true ∷ []) ∷ (false ∷ false ∷ true ∷ true ∷ []) ∷ (false ∷ false ∷ false ∷ false ∷ []) ∷ []
unfolding computed lent sound_lots damage_of_lots
damage_of_lots_lem = refl

damage_of_value_lem :
    map (λ i. map (λ z. damaged (with_rows lent.lots (set lent.value i z) lent)) (sound_value ++ damage_of_value)) (544 ∷ 3234 ∷ 3235 ∷ [])
    ≡ (false ∷ false ∷ true ∷ true ∷ []) ∷ (false ∷ false ∷ true ∷ true ∷ []) ∷ (false ∷ false ∷ false ∷ false ∷ []) ∷ []
unfolding computed lent sound_value damage_of_value
damage_of_value_lem = refl
