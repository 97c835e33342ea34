-- Document 01, "Close of day".
use Rattle.std.specs.Prelude.{ℕ, ◌+◌, ◌*◌, ◌/◌, Bool, true, false, cond, not, ◌&&◌, ◌||◌, eqb, leb, ltb, take, drop, replicate, ℤ, pos, ◌+ℤ◌, Some, None, Ok}
use mathlib.Core.List.{List, [], ◌∷◌, ◌++◌, zip_with}
use Rattle.std.proofs.Math.Option.{Option, none, some}
use Rattle.arith.specs.Lists.{any, kept, over, in_each_block}
use Rattle.rules.specs.declared.contract.ContractKind.TheVariants.{Year, Quarter, Month}
use Rattle.rules.specs.declared.order.Order.{Order}
use Rattle.rules.specs.declared.order.Side.{Side}
use Rattle.rules.specs.declared.order.Side.TheVariants.{Buy, Sell}
use Rattle.rules.specs.Answers.{Outcome}
use Rattle.rules.specs.Ranges.{contract_count, seconds_to_quote}
use Rattle.rules.specs.Days.{next_business_day}
use Rattle.rules.specs.ContractTerms.{threshold_of, kind_of, contracts_of, is_parent, children_of, closes_on, open_contracts}
use Rattle.rules.specs.Ledger.{Tables, with_head, with_prices, with_rows, members, day, calendar, with_day, with_time, price_width, day_lots_place, ggf, day_lots, day_value, with_ggf}
use Rattle.rules.specs.Ledger.{rows_from, orders, resting, with_orders, without_submits}
use Rattle.rules.specs.Sides.{same_side}
use Rattle.rules.specs.Matching.{best}

-- ---- the GGF, the reference price
-- Halves round up.
abbrev pub rounded_half_up : ℕ → ℕ → ℕ
rounded_half_up n d = (2 * n + d) / (2 * d)

-- The order entered on an earlier day, or at least 300 s before the record's time.
unfoldable pub entered_before : ℕ → ℕ → Order → Bool
entered_before d s o = ltb o.day.0 d || eqb o.day.0 d && leb (o.time + seconds_to_quote) s

-- An order that quotes: of that contract and side, entered in time, and still with the threshold's lots or more.
unfoldable pub quotes : Tables → ℕ → ℕ → Side → Order → Bool
quotes t s c side o =
    eqb o.contract c && (same_side o.side side && (entered_before (day t) s o && leb (threshold_of (kind_of c)) o.lots.0))

unfoldable pub best_quote : Tables → ℕ → ℕ → Side → Option Order
best_quote t s c side = best (quotes t s c side) (resting t)

-- M < T, with the best buy b and the best sell s that quote: (6V + M(b+s))/(8M) if M > 0, (b+s)/2 if M = 0;
-- without one of them the former GGF (house).
abbrev pub quoted_price : ℕ → ℕ → ℕ → Option Order → Option Order → ℕ
quoted_price m v former none s = former
quoted_price m v former (some b) none = former
quoted_price m v former (some b) (some s) =
    let both = b.price.0 + s.price.0 in
    cond (ltb 0 m) (rounded_half_up (6 * v + m * both) (8 * m)) (rounded_half_up both 2)

-- M ≥ T, the threshold: V/M. Synthetic and default lots don't count in M.
abbrev pub price_of_day : ℕ → ℕ → ℕ → ℕ → Option Order → Option Order → ℕ
price_of_day threshold m v former b s = cond (leb threshold m) (rounded_half_up v m) (quoted_price m v former b s)

-- The GGF of an open contract at a close with that time.
unfoldable pub ggf_at_close : Tables → ℕ → ℕ → ℕ
ggf_at_close t s c =
    price_of_day (threshold_of (kind_of c)) (day_lots t c) (day_value t c) (ggf t c) (best_quote t s c Buy) (best_quote t s c Sell)

-- The prices with a new GGF for each of these contracts.
unfoldable pub with_ggfs : Tables → ℕ → List ℕ → List ℕ → List ℕ
with_ggfs t s [] l = l
with_ggfs t s (c ∷ cs) l = with_ggfs t s cs (with_ggf c (ggf_at_close t s c) l)

unfoldable pub without_deals : List ℕ → List ℕ
without_deals l = in_each_block price_width (over (day_lots_place 0) (0 ∷ 0 ∷ [])) contract_count l

-- A new GGF for every open contract; M and V of all contracts become 0.
unfoldable pub priced : ℕ → Tables → Tables
priced s t = with_prices (without_deals (with_ggfs t s (open_contracts (calendar t) (day t)) t.prices)) t

-- ---- closing contracts
-- The first n rows of a contract, in a column of rows.
abbrev pub contract_rows : ℕ → ℕ → List ℤ → List ℤ
contract_rows n c l = take n (drop (rows_from c) l)

-- The parent's rows added to each of the children's, same lots and value.
unfoldable pub added_to : ℕ → ℕ → List ℕ → List ℤ → List ℤ
added_to n p [] l = l
added_to n p (c ∷ cs) l = added_to n p cs (over (rows_from c) (zip_with ◌+ℤ◌ (contract_rows n c l) (contract_rows n p l)) l)

unfoldable pub zero_rows : ℕ → ℕ → List ℤ → List ℤ
zero_rows n c l = over (rows_from c) (replicate n (pos 0)) l

-- A year's rows are added to its four quarters, a quarter's to its three months, and set to zero; a month's rows stay.
unfoldable pub cascaded : ℕ → ℕ → List ℤ → List ℤ
cascaded n c l = cond (is_parent c) (zero_rows n c (added_to n c (children_of c) l)) l

-- The contracts whose closing day is the ledger's day, years before quarters before months, each by delivery.
unfoldable pub closing_contracts : Tables → List ℕ
closing_contracts t = kept (λ c. closes_on (calendar t) c (day t)) (contracts_of Year ++ (contracts_of Quarter ++ contracts_of Month))

-- Each contract's rows cascade, one contract after the other.
unfoldable pub all_cascaded : ℕ → List ℕ → List ℤ → List ℤ
all_cascaded n [] l = l
all_cascaded n (c ∷ cs) l = all_cascaded n cs (cascaded n c l)

-- The order is of one of these contracts.
unfoldable pub is_of_any : List ℕ → Order → Bool
is_of_any cs o = any (λ c. eqb c o.contract) cs

-- The closing contracts: their orders go from the table, all together; their rows cascade.
unfoldable pub with_closed : List ℕ → Tables → Tables
with_closed cs t =
    with_rows (all_cascaded (members t) cs t.lots) (all_cascaded (members t) cs t.value) (with_orders (kept (λ o. not (is_of_any cs o)) (orders t)) t)

-- ---- the new day
unfoldable pub has_next_day : Tables → Bool
has_next_day t = elim (next_business_day (calendar t) (day t)) [ Some d ↦ true | None ↦ false ]

unfoldable pub next_day : Tables → ℕ
next_day t = elim (next_business_day (calendar t) (day t)) [ Some d ↦ d.0 | None ↦ day t ]

-- The second's counts and time become 0, day the next business day.
unfoldable pub on_day : ℕ → Tables → Tables
on_day d t = with_head (with_time 0 (with_day d (without_submits t).head)) t

-- No deal lines.
unfoldable pub close_booked : Tables → ℕ → Outcome Tables
close_booked t s = record { answer = Ok 0; after = on_day (next_day t) (with_closed (closing_contracts t) (priced s t)) }
