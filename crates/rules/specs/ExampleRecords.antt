-- What the examples are written in: records by their fields, ledgers that a header made or that are lent, what a call prints.
use Rattle.std.specs.Prelude.{ℕ, ◌≡◌, List, [], ◌∷◌, map, length, set, ℤ, pos, neg_ℤ}
use Rattle.rules.specs.declared.event.Event.TheVariants.{Submit, Cancel, DayLimits, Proposal, Default, CloseOut, CloseOfDay}
use Rattle.rules.specs.declared.event.OrderKind.{OrderKind}
use Rattle.rules.specs.declared.event.OrderKind.TheVariants.{Resting}
use Rattle.rules.specs.declared.order.Order.{Order}
use Rattle.rules.specs.declared.order.Side.{Side}
use Rattle.rules.specs.declared.order.Side.TheVariants.{Buy, Sell}
use Rattle.rules.specs.Header.{header_bytes}
use Rattle.rules.specs.Ledger.{Tables, Line, with_head, with_prices, with_rows, with_mark, row_place, zero_tables}
use Rattle.rules.specs.Records.{bytes_of}
use Rattle.rules.specs.Refusals.{apply_spec, make_spec}
use Rattle.rules.specs.Computed.{Printed, printed, all_printed}

-- ---- records
-- time, order kind, side, member, contract, price, lots
abbrev pub submit : ℕ → OrderKind → Side → ℕ → ℕ → ℕ → ℕ → List ℕ
submit s kind side m c p q =
    bytes_of (Submit (record { time = s; member = m; contract = c; side = side; kind = kind; price = record { 0 = p }; lots = record { 0 = q } })) []

-- Resting orders at 36000 s: member, contract, price, lots.
abbrev pub buy : ℕ → ℕ → ℕ → ℕ → List ℕ
buy m c p q = submit 36000 Resting Buy m c p q

abbrev pub sell : ℕ → ℕ → ℕ → ℕ → List ℕ
sell m c p q = submit 36000 Resting Sell m c p q

-- time, member, order number
abbrev pub cancel : ℕ → ℕ → ℕ → List ℕ
cancel s m n = bytes_of (Cancel (record { time = s; member = m; order = n })) []

-- contract, low, high
abbrev pub limits : ℕ → ℕ → ℕ → List ℕ
limits c l h = bytes_of (DayLimits (record { contract = c; low = record { 0 = l }; high = record { 0 = h } })) []

-- Legs of order number, lots and price.
abbrev pub proposal : List (ℕ × ℕ × ℕ) → List ℕ
proposal legs =
    bytes_of (Proposal (length legs)) (map (λ g. record { order = g.0; lots = record { 0 = g.1 }; price = record { 0 = g.2 } }) legs)

abbrev pub default : ℕ → List ℕ
default m = bytes_of (Default m) []

-- contract, ratio
abbrev pub close_out : ℕ → ℕ → List ℕ
close_out c r = bytes_of (CloseOut (record { contract = c; ratio = r })) []

abbrev pub close : ℕ → List ℕ
close s = bytes_of (CloseOfDay s) []

-- ---- ledgers
-- First year, start day, holidays, one limit per member.
abbrev pub made : ℕ → ℕ → List ℕ → List ℕ → Tables
made year start days limits =
    (make_spec zero_tables (header_bytes (record { first_year = year; start_day = start; members = length limits; holidays = days; limits = limits }))).after

-- First year 2021, Monday 4 January 2021, three members with limits of 1000 lots.
abbrev pub monday : Tables
monday = made 2021 369 [] (1000 ∷ 1000 ∷ 1000 ∷ [])

-- The tables with a change in their head, or in their prices.
abbrev pub in_head : (List ℕ → List ℕ) → Tables → Tables
in_head f t = with_head (f t.head) t

abbrev pub in_prices : (List ℕ → List ℕ) → Tables → Tables
in_prices f t = with_prices (f t.prices) t

-- These members have defaulted.
unfoldable pub with_defaulted : List ℕ → Tables → Tables
with_defaulted [] t = t
with_defaulted (m ∷ ms) t = in_head (with_mark m) (with_defaulted ms t)

-- Lots of a member in a contract.
unfoldable pub held : List (ℕ × ℕ × ℤ) → Tables → Tables
held [] t = t
held ((m, c, q) ∷ xs) t = let u = held xs t in with_rows (set u.lots (row_place c m) q) u.value u

-- An order with this number: member, contract, side, price, lots, day and time of entry.
abbrev pub order : ℕ → ℕ → ℕ → Side → ℕ → ℕ → ℕ → ℕ → Order
order n m c side p q d s =
    record { number = n; member = m; contract = c; side = side; price = record { 0 = p }; lots = record { 0 = q }; day = record { 0 = d }; time = s }

-- ---- what a call prints
abbrev pub line : ℕ → ℕ → ℤ → ℕ → Line
line m c q p = record { member = m; contract = c; lots = q; price = p }

-- A deal of the incoming member with a resting one: contract, lots, price.
abbrev pub bought : ℕ → ℕ → ℕ → ℕ → ℕ → List Line
bought m r c q p = line m c (pos q) p ∷ line r c (neg_ℤ (pos q)) p ∷ []

abbrev pub sold : ℕ → ℕ → ℕ → ℕ → ℕ → List Line
sold m r c q p = line m c (neg_ℤ (pos q)) p ∷ line r c (pos q) p ∷ []

-- Accepted, with these lines; refused, with this number, 5 with the member and 6 with the contract.
abbrev pub accepted : List Line → Printed
accepted ls = record { answer = record { number = 0; detail = length ls }; lines = ls }

abbrev pub refused : ℕ → Printed
refused n = record { answer = record { number = n; detail = 0 }; lines = [] }

abbrev pub refused_of : ℕ → ℕ → Printed
refused_of n v = record { answer = record { number = n; detail = v }; lines = [] }

-- A function of each of these has the value beside it.
abbrev pub Each : {A B : Type 0} → (A → B) → List (A × B) → Type 0
Each asked xs = map (λ x. asked x.0) xs ≡ map (λ x. x.1) xs

-- Each of these records, given to the same tables, prints what stands beside it.
abbrev pub EachPrints : Tables → List (List ℕ × Printed) → Type 0
EachPrints t calls = Each (λ r. printed (apply_spec t r)) calls

-- The calls with these records, one after the other, print what stands beside them.
abbrev pub Prints : Tables → List (List ℕ × Printed) → Type 0
Prints t calls = all_printed t (map (λ x. x.0) calls) ≡ map (λ x. x.1) calls
