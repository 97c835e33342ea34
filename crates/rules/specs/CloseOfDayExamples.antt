-- Document 01, "Close of day": what is priced beside what is not, and what a close leaves, computed.
use Rattle.std.specs.Prelude.{ℕ, suc, ◌≡◌, refl, ℤ, pos, negsuc}
use mathlib.Core.List.{List, [], ◌∷◌, map, flat_map}
use Rattle.rules.specs.declared.order.Order.{Order}
use Rattle.rules.specs.declared.order.Side.{Side}
use Rattle.rules.specs.declared.order.Side.TheVariants.{Buy, Sell}
use Rattle.rules.specs.Ledger.{Tables, with_accepted_submits, with_lots_run, with_ggf, with_dealt, with_orders, booked, ggf, lots_at, value_at}
use Rattle.rules.specs.Refusals.{apply_spec}
use Rattle.rules.specs.Computed.{tables_after, computed}
use Rattle.rules.specs.ExampleRecords.{close, made, monday, in_head, in_prices, order, line}

-- ---- the GGF
-- An order of a contract: side, price, lots, day and time of entry.
abbrev pub Quote : Type 0
Quote = Side × ℕ × ℕ × ℕ × ℕ

-- A contract with its former GGF, M, V and orders, and its GGF after the close.
abbrev pub Priced : Type 0
Priced = ℕ × ℕ × ℕ × ℕ × List Quote × ℕ

-- Their orders, all of member 0, numbered from n on.
unfoldable pub orders_from : ℕ → List (ℕ × Quote) → List Order
orders_from n [] = []
orders_from n ((c, q) ∷ qs) = order n 0 c q.0 q.1 q.2 q.3 q.4 ∷ orders_from (suc n) qs

unfoldable pub placed : List Priced → Tables → Tables
placed [] t = t
placed ((c, former, m, v, quotes, price) ∷ xs) t = in_prices (with_ggf c former) (in_prices (with_dealt c m v) (placed xs t))

-- Monday, 369, with a lots run of 1000 and the contracts as they are given; then the close at 36000 s.
unfoldable pub closed : List Priced → Tables
closed xs =
    (apply_spec
    (with_orders (orders_from 0 (flat_map (λ x. map (λ q. (x.0, q)) x.4) xs)) (in_head (with_accepted_submits 100) (in_head (with_lots_run 1000) (placed xs monday))))
    (close 36000)
    ).after

abbrev pub Prices : List Priced → Type 0
Prices xs = map (λ x. ggf (closed xs) x.0) xs ≡ map (λ x. x.5) xs

-- A year with 10 lots: V/M, half up. With one lot less, and no quote: the former GGF. With none: half the sum of the quotes,
-- of which one entered on an earlier day, late.
ggf_of_years : Prices
    ((17, 25000, 10, 274995, [], 27500)
    ∷ (34, 26000, 9, 252000, [], 26000)
    ∷ (51, 25000, 0, 0, (Buy, 27500, 10, 368, 86399) ∷ (Sell, 27701, 10, 369, 35700) ∷ [], 27601)
    ∷ [])
unfolding computed closed placed orders_from
ggf_of_years = refl

-- ---- cascades
-- Lots and value of these members in these contracts: lines in the year 2021 and its first quarter, then the close of day 359,
-- the year's closing day.
abbrev rows_after : List (ℕ × ℕ) → List (ℤ × ℤ)
rows_after xs =
    let lines = line 0 17 (pos 5) 30000 ∷ line 0 18 (negsuc 1) 31000 ∷ line 1 17 (pos 4) 30000 ∷ line 1 17 (negsuc 3) 31000 ∷ [] in
    let t = tables_after (booked lines (made 2020 359 [] (1000 ∷ 1000 ∷ []))).after (close 0 ∷ []) in
    map (λ x. (lots_at t x.1 x.0, value_at t x.1 x.0)) xs

-- The year's rows are added to its quarters, and to no month yet. Member 1's lots net to zero, and their value goes on.
year_that_cascades : rows_after ((0, 17) ∷ (0, 18) ∷ (0, 22) ∷ (1, 19) ∷ [])
    ≡ (pos 0, pos 0) ∷ (pos 3, pos 88000) ∷ (pos 0, pos 0) ∷ (pos 0, negsuc 3999) ∷ []
unfolding computed
year_that_cascades = refl
