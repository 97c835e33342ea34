-- Document 01, "The two accounts of demand 3": a list of calls with two cascades, a proposal and a close-out. Both accounts of every
-- member, the log and the list's day are written out by hand.
use Rattle.std.specs.Prelude.{ℕ, ◌≡◌, refl, true, false, List, [], ◌∷◌, map, take, replicate, ℤ, pos, negsuc}
use Rattle.arith.specs.Ints.{sum}
use Rattle.arith.specs.Lists.{from}
use Rattle.rules.specs.declared.event.OrderKind.TheVariants.{Resting}
use Rattle.rules.specs.declared.order.Side.TheVariants.{Buy}
use Rattle.rules.specs.ContractTerms.{has_cascaded}
use Rattle.rules.specs.Header.{Header, calendar_of, header_bytes}
use Rattle.rules.specs.Ledger.{Tables, Line, zero_tables}
use Rattle.rules.specs.Refusals.{make_spec}
use Rattle.rules.specs.Accounts.{Call, Column, lots, value, row, amount, after, log, engine_account, entered, other_account, lists_day}
use Rattle.rules.specs.Computed.{computed}
use Rattle.rules.specs.ExampleRecords.{submit, buy, sell, proposal, default, close_out, close, line, Each}

-- ---- the list of calls
-- First year 2020, Friday 25 December 2020, three members.
unfoldable pub header : Header
header = record { first_year = 2020; start_day = 359; members = 3; holidays = []; limits = 1000 ∷ 1000 ∷ 1000 ∷ [] }

unfoldable pub start : Tables
start = (make_spec zero_tables (header_bytes header)).after

unfoldable pub records : List (List ℕ)
records =
    -- day 359: member 0 buys 2 lots of the year 2021 from member 1
    sell 1 17 30000 2
    ∷ buy 0 17 30000 2
    -- member 1 buys 20 lots of its first quarter from member 2, so that its GGF is 31000, and member 0 one lot of February from 1
    ∷ sell 2 18 31000 20
    ∷ buy 1 18 31000 20
    ∷ sell 1 23 29000 1
    ∷ buy 0 23 29000 1
    -- a submit and a close of day whose time is below the ledger's: 4
    ∷ submit 35999 Resting Buy 0 17 30000 1
    ∷ close 35999
    -- the year cascades; day 362
    ∷ close 61200
    -- the quarter is bought by member 0, its months are sold by member 2
    ∷ buy 0 18 31000 1
    ∷ sell 2 22 31000 1
    ∷ sell 2 23 30500 1
    ∷ sell 2 24 30000 1
    ∷ proposal ((6, 1, 31000) ∷ (7, 1, 31000) ∷ (8, 1, 31000) ∷ (9, 1, 31000) ∷ [])
    -- member 2's 20 lots of the quarter: by lots here, 3 and 18, the minimums are 3 and 18; 3 and 17 are received
    ∷ default 2
    ∷ close_out 18 1000
    -- a record that is cut: 3
    ∷ (7 ∷ 0 ∷ [])
    -- day 363; then the quarter and January close, the quarter cascades; day 364
    ∷ close 61200
    ∷ close 61200
    ∷ []

-- Each call is lent a line table that holds something else.
unfoldable pub calls : List Call
calls = map (λ r. record { bytes = r; lines = replicate 800 (pos 7) }) records

-- ---- the log
whole_log_lem : log start calls
    ≡ line 0 17 (pos 2) 30000
    ∷ line 1 17 (negsuc 1) 30000
    ∷ line 1 18 (pos 20) 31000
    ∷ line 2 18 (negsuc 19) 31000
    ∷ line 0 23 (pos 1) 29000
    ∷ line 1 23 (negsuc 0) 29000
    ∷ line 0 18 (pos 1) 31000
    ∷ line 2 22 (negsuc 0) 31000
    ∷ line 2 23 (negsuc 0) 31000
    ∷ line 2 24 (negsuc 0) 31000
    ∷ line 2 18 (pos 20) 31000
    ∷ line 0 18 (negsuc 2) 31000
    ∷ line 1 18 (negsuc 16) 31000
    ∷ []
unfolding computed log calls records start header
whole_log_lem = refl

-- ---- the two accounts
-- Of each member in an hour, lots and value: by the rows after the first n calls, and by their lines.
abbrev Balance : Type 0
Balance = List ℤ × List ℤ

of_members : (Column → ℕ → ℤ) → Balance
of_members account = (map (account lots) (from 0 3), map (account value) (from 0 3))

engine_balance : Tables → ℕ → Balance
engine_balance t hour = of_members (λ x m. engine_account (calendar_of header) (row x t) m hour)

other_balance : List Line → ℕ → Balance
other_balance ls hour = of_members (λ x m. other_account (calendar_of header) (amount x) ls m hour)

none : Balance
none = (pos 0 ∷ pos 0 ∷ pos 0 ∷ [], pos 0 ∷ pos 0 ∷ pos 0 ∷ [])

-- Hours: the last of 2020, the first and last of January, the first and last of February, the last of March, the first of April, the
-- last of December, the first of 2022.
hours : List ℕ
hours = 8783 ∷ 8784 ∷ 9527 ∷ 9528 ∷ 10199 ∷ 10943 ∷ 10944 ∷ 17543 ∷ 17544 ∷ []

-- What January and March have, what February has, what later months have.
in_hours : Balance → Balance → Balance → List Balance
in_hours january february later = none ∷ january ∷ january ∷ february ∷ february ∷ january ∷ later ∷ later ∷ none ∷ []

-- Before and after the year cascades.
at_first : List Balance
at_first =
    in_hours (pos 2 ∷ pos 18 ∷ negsuc 19 ∷ [], pos 60000 ∷ pos 560000 ∷ negsuc 619999 ∷ [])
    (pos 3 ∷ pos 17 ∷ negsuc 19 ∷ [], pos 89000 ∷ pos 531000 ∷ negsuc 619999 ∷ [])
    (pos 2 ∷ negsuc 1 ∷ pos 0 ∷ [], pos 60000 ∷ negsuc 59999 ∷ pos 0 ∷ [])

-- After the proposal.
proposed : List Balance
proposed =
    in_hours (pos 3 ∷ pos 18 ∷ negsuc 20 ∷ [], pos 91000 ∷ pos 560000 ∷ negsuc 650999 ∷ [])
    (pos 4 ∷ pos 17 ∷ negsuc 20 ∷ [], pos 120000 ∷ pos 531000 ∷ negsuc 650999 ∷ [])
    (pos 2 ∷ negsuc 1 ∷ pos 0 ∷ [], pos 60000 ∷ negsuc 59999 ∷ pos 0 ∷ [])

-- After the close-out, before and after the quarter cascades.
at_last : List Balance
at_last =
    in_hours (pos 0 ∷ pos 1 ∷ negsuc 0 ∷ [], negsuc 1999 ∷ pos 33000 ∷ negsuc 30999 ∷ [])
    (pos 1 ∷ pos 0 ∷ negsuc 0 ∷ [], pos 27000 ∷ pos 4000 ∷ negsuc 30999 ∷ [])
    (pos 2 ∷ negsuc 1 ∷ pos 0 ∷ [], pos 60000 ∷ negsuc 59999 ∷ pos 0 ∷ [])

-- After so many calls.
balances : List (ℕ × List Balance)
balances = (8, at_first) ∷ (9, at_first) ∷ (14, proposed) ∷ (16, at_last) ∷ (19, at_last) ∷ []

engine_account_lem : Each (λ n. let t = after start (take n calls) in map (engine_balance t) hours) balances
unfolding computed sum engine_account after calls records start header of_members engine_balance none hours in_hours at_first proposed at_last balances
engine_account_lem = refl

other_account_lem : Each (λ n. let ls = log start (take n calls) in map (other_balance ls) hours) balances
unfolding computed log entered other_account calls records start header of_members other_balance none hours in_hours at_first proposed at_last balances
other_account_lem = refl

-- ---- the list's day, and what has cascaded
-- After so many calls: a close of day that is refused and a record that is cut do not move it.
lists_day_lem : Each (λ n. lists_day header 359 start (take n calls)) ((0, 359) ∷ (8, 359) ∷ (9, 362) ∷ (17, 362) ∷ (18, 363) ∷ (19, 364) ∷ [])
unfolding computed lists_day calls records start header
lists_day_lem = refl

-- On a day: the year 2021, its first and second quarter, its January; the year 2020 and its first quarter, which closed before day 0;
-- number 102, which is no contract.
which_cascaded : Each (λ d. map (has_cascaded (calendar_of header) d) (17 ∷ 18 ∷ 19 ∷ 22 ∷ 0 ∷ 1 ∷ 102 ∷ []))
    ((0, false ∷ false ∷ false ∷ false ∷ true ∷ true ∷ false ∷ [])
    ∷ (359, false ∷ false ∷ false ∷ false ∷ true ∷ true ∷ false ∷ [])
    ∷ (360, true ∷ false ∷ false ∷ false ∷ true ∷ true ∷ false ∷ [])
    ∷ (363, true ∷ false ∷ false ∷ false ∷ true ∷ true ∷ false ∷ [])
    ∷ (364, true ∷ true ∷ false ∷ false ∷ true ∷ true ∷ false ∷ [])
    ∷ (454, true ∷ true ∷ true ∷ false ∷ true ∷ true ∷ false ∷ [])
    ∷ [])
unfolding computed header
which_cascaded = refl

-- Nothing is left in the year and the quarter that have cascaded: lots and value of each member at the end; January has some.
rows_of : ℕ → Balance
rows_of c = let t = after start calls in of_members (λ x. row x t c)

nothing_left : Each rows_of
    ((17, none) ∷ (18, none) ∷ (22, (pos 0 ∷ pos 1 ∷ negsuc 0 ∷ [], negsuc 1999 ∷ pos 33000 ∷ negsuc 30999 ∷ [])) ∷ [])
unfolding computed after calls records start header of_members rows_of none
nothing_left = refl
