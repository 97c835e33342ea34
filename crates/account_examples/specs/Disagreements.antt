-- Document 01, "The two accounts of demand 3": tables, logs and days of which the statement does not hold. Each is refused by one part of
-- it, so that the part is asked of later hours and other members too, of value beside lots, and of quarters beside years.
use Rattle.std.specs.Prelude.{ℕ, ◌≤◌, ◌<◌, ◌≡◌, List, [], ◌∷◌, ◌++◌, take, drop, set, pos, nat_abs}
use Rattle.std.proofs.Common.{arith, ap}
use Rattle.arith.specs.Ints.{sum}
use Rattle.rules.specs.Ranges.{contract_count}
use Rattle.rules.specs.Ledger.{Tables, Line, with_rows}
use Rattle.rules.specs.Accounts.{Agrees, lots, value, after, log, engine_account, entered, other_account}
use Rattle.rules.specs.Computed.{computed}
use Rattle.rules.specs.ExampleRecords.{line}
use Rattle.account_examples.specs.TwoAccounts.{header, start, records, calls}

unfoldable at_end : Tables
unfolding after
at_end = after start calls

unfoldable whole_log : List Line
unfolding log
whole_log = log start calls

-- Without February's two lines: in February's last hour member 1 has one lot more by the lines than by the rows.
lines_missing : Agrees header at_end (take 4 whole_log ++ drop 6 whole_log) 364 → ⊥
unfolding computed sum engine_account entered other_account after log calls records start header at_end whole_log
lines_missing a =
    let member : 1 < 3 = omega arith in
    let from : 0 ≤ 10199 = omega arith in
    let to : 10199 < 52608 = omega arith in
    let differ : ◌≡◌ {A = ℕ} 0 1 = ap nat_abs (a.same lots 1 10199 member (from, to)) in
    absurd (omega arith)

-- January's value of member 0, place 704, set to 0: in January's first hour the rows have no value of it, and the lines have -2000.
value_missing : Agrees header (with_rows at_end.lots (set at_end.value 704 (pos 0)) at_end) whole_log 364 → ⊥
unfolding computed sum engine_account entered other_account after log calls records start header at_end whole_log
value_missing a =
    let member : 0 < 3 = omega arith in
    let from : 0 ≤ 8784 = omega arith in
    let to : 8784 < 52608 = omega arith in
    let differ : ◌≡◌ {A = ℕ} 0 2000 = ap nat_abs (a.same value 0 8784 member (from, to)) in
    absurd (omega arith)

-- The tables before the last close, on the day after it: the first quarter has closed, and a lot of member 1 is left in it.
quarter_left : Agrees header (after start (take 18 calls)) whole_log 364 → ⊥
unfolding computed after log calls records start header whole_log
quarter_left a =
    let contract : 18 < contract_count = omega arith in
    let member : 1 < 3 = omega arith in
    let differ : ◌≡◌ {A = ℕ} 1 0 = ap nat_abs (a.nothing_left lots 18 1 contract member tt) in
    absurd (omega arith)

-- A lot of the second quarter, contract 19, that only member 2 has: in the rows, place 610, and in the lines.
rows_not_balanced : Agrees header (with_rows (set at_end.lots 610 (pos 1)) at_end.value at_end) whole_log 364 → ⊥
unfolding computed sum engine_account after log calls records start header at_end whole_log
rows_not_balanced a =
    let from : 0 ≤ 10944 = omega arith in
    let to : 10944 < 52608 = omega arith in
    let differ : ◌≡◌ {A = ℕ} 1 0 = ap nat_abs (a.engine_zero lots 10944 (from, to)) in
    absurd (omega arith)

lines_not_balanced : Agrees header at_end (whole_log ++ (line 2 19 (pos 1) 30000 ∷ [])) 364 → ⊥
unfolding computed sum entered other_account after log calls records start header at_end whole_log
lines_not_balanced a =
    let from : 0 ≤ 10944 = omega arith in
    let to : 10944 < 52608 = omega arith in
    let differ : ◌≡◌ {A = ℕ} 1 0 = ap nat_abs (a.other_zero lots 10944 (from, to)) in
    absurd (omega arith)
