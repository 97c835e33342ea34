-- Each refusal number, and what is accepted just beside it, computed from tables and bytes.
use Rattle.std.specs.Prelude.{ℕ, ◌*◌, ◌≡◌, refl, List, [], ◌∷◌, map, replicate, pos, negsuc}
use Rattle.arith.specs.Lists.{from}
use Rattle.rules.specs.declared.event.OrderKind.TheVariants.{Oeye, Teye}
use Rattle.rules.specs.declared.order.Side.TheVariants.{Buy}
use Rattle.rules.specs.Answers.{Reply, reply_of}
use Rattle.rules.specs.Header.{header_bytes}
use Rattle.rules.specs.Ledger.{Tables, line_width, with_head, with_time, with_accepted_submits, with_lots_run, with_ggf, with_day_limits, with_lines, zero_tables}
use Rattle.rules.specs.Refusals.{apply_spec, make_spec}
use Rattle.rules.specs.Computed.{tables_after, computed}
use Rattle.rules.specs.ExampleRecords.{submit, buy, sell, cancel, limits, proposal, default, close_out, close, made, monday, in_head, in_prices, with_defaulted, held}

-- A refusal; one with a member or contract; an acceptance with its line count.
abbrev no : ℕ → Reply
no n = record { number = n; detail = 0 }

abbrev no_of : ℕ → ℕ → Reply
no_of n v = record { number = n; detail = v }

abbrev lines : ℕ → Reply
lines n = record { number = 0; detail = n }

-- ---- tables
-- Monday, 369, after these records.
abbrev after : List (List ℕ) → Tables
after rs = tables_after monday rs

-- Member 0 has defaulted with 5 lots of contract 17, which has a GGF; the lots run is this.
abbrev one_defaulted : ℕ → Tables
one_defaulted run = held ((0, 17, pos 5) ∷ []) (with_defaulted (0 ∷ []) (in_prices (with_ggf 17 26000) (in_head (with_lots_run run) monday)))

-- So many legs, of orders 0, 1 and so on.
abbrev legs : ℕ → List ℕ
legs n = proposal (map (λ i. (i, 1, 1)) (from 0 n))

-- ---- the answers: tables, a record, and its answer
answers : List (Tables × List ℕ × Reply)
answers =
    -- 1: 199 places for lines; time 86,400
    (with_lines (replicate (199 * line_width) (pos 0)) monday, buy 0 17 26000 1, no 1)
    ∷ (in_head (with_time 86400) monday, buy 0 17 26000 1, no 1)
    ∷ (in_head (with_time 36000) monday, buy 0 17 26000 1, lines 0)
    -- 3: 101 lots; a surplus byte; an unknown kind
    ∷ (monday, buy 0 17 26000 101, no 3)
    ∷ (monday, buy 0 17 26000 100, lines 0)
    ∷ (monday, 5 ∷ 1 ∷ 0 ∷ [], no 3)
    ∷ (monday, 5 ∷ 1 ∷ [], lines 0)
    ∷ (monday, 8 ∷ 1 ∷ [], no 3)
    -- 3: 13 legs and 1; with 12 and 2 it is 13, since no such orders rest
    ∷ (monday, legs 13, no 3)
    ∷ (monday, legs 12, no 13)
    ∷ (monday, legs 2, no 13)
    ∷ (monday, legs 1, no 3)
    -- 3: ratio 1,001 and 0; with 1,000 and 1 it is 14
    ∷ (monday, close_out 17 1001, no 3)
    ∷ (monday, close_out 17 1000, no 14)
    ∷ (monday, close_out 17 1, no 14)
    ∷ (monday, close_out 17 0, no 3)
    -- 3: price 1,000,001 and 0; contract 102; member 3 of three; time 86,400
    ∷ (monday, buy 0 17 1000001 1, no 3)
    ∷ (monday, buy 0 17 1000000 1, lines 0)
    ∷ (monday, buy 0 17 1 1, lines 0)
    ∷ (monday, buy 0 17 0 1, no 3)
    ∷ (monday, buy 0 102 26000 1, no 3)
    ∷ (monday, buy 0 101 26000 1, no_of 6 101)
    ∷ (monday, buy 3 17 26000 1, no 3)
    ∷ (monday, buy 2 17 26000 1, lines 0)
    ∷ (monday, close 86400, no 3)
    ∷ (monday, close 86399, lines 0)
    -- 4: submit, cancel, close of day
    ∷ (in_head (with_time 36001) monday, buy 0 17 26000 1, no 4)
    ∷ (after (buy 0 17 26000 1 ∷ []), cancel 35999 0 0, no 4)
    ∷ (after (buy 0 17 26000 1 ∷ []), cancel 36000 0 0, lines 0)
    ∷ (in_head (with_time 36001) monday, close 36000, no 4)
    ∷ (in_head (with_time 36000) monday, close 36000, lines 0)
    -- 5, with the member: submit, default
    ∷ (with_defaulted (2 ∷ []) monday, buy 2 17 26000 1, no_of 5 2)
    ∷ (with_defaulted (2 ∷ []) monday, default 2, no_of 5 2)
    ∷ (with_defaulted (2 ∷ []) monday, default 1, lines 0)
    -- 6, with the contract: January 2021 has closed; four years, eight quarters and fifteen months are open
    ∷ (monday, buy 0 5 26000 1, no_of 6 5)
    ∷ (monday, buy 0 6 26000 1, lines 0)
    ∷ (monday, limits 68 1 26000, lines 0)
    ∷ (monday, limits 85 1 26000, no_of 6 85)
    ∷ (monday, limits 35 1 26000, lines 0)
    ∷ (monday, limits 36 1 26000, no_of 6 36)
    ∷ (monday, limits 25 1 26000, lines 0)
    ∷ (monday, limits 26 1 26000, no_of 6 26)
    ∷ (monday, close_out 85 1000, no_of 6 85)
    -- 7
    ∷ (in_prices (with_day_limits 17 25000 25999) monday, buy 0 17 26000 1, no 7)
    ∷ (in_prices (with_day_limits 17 25000 26000) monday, buy 0 17 26000 1, lines 0)
    -- 8
    ∷ (after (map (λ i. buy 0 17 26000 1) (from 0 5)), buy 0 17 26000 1, no 8)
    ∷ (after (map (λ i. buy 0 17 26000 1) (from 0 4)), buy 0 17 26000 1, lines 0)
    -- 9: a limit met exactly passes; one more is 9
    ∷ (made 2021 369 [] (5 ∷ []), buy 0 17 26000 6, no 9)
    ∷ (made 2021 369 [] (5 ∷ []), buy 0 17 26000 5, lines 0)
    -- 10; OEYE that meets nothing is accepted
    ∷ (monday, submit 36000 Teye Buy 0 17 26000 1, no 10)
    ∷ (monday, submit 36000 Oeye Buy 0 17 26000 1, lines 0)
    -- 11 needs a full book, which takes long to compute: crate full_book has it
    -- 12
    ∷ (after (buy 0 17 26000 1 ∷ []), cancel 36000 1 0, no 12)
    -- 14; 15; 16
    ∷ (in_prices (with_ggf 17 0) (one_defaulted 5), close_out 17 1000, no 14)
    ∷ (in_prices (with_ggf 17 26000) (with_defaulted (0 ∷ []) monday), close_out 17 1000, no 15)
    ∷ (one_defaulted 5, close_out 17 1000, no 16)
    -- 17: the two lines of a deal would make 5,000,001; so would those of a close-out
    ∷ (in_head (with_lots_run 4999999) (after (sell 1 17 26000 1 ∷ [])), buy 0 17 26000 1, no 17)
    ∷ (in_head (with_lots_run 4999998) (after (sell 1 17 26000 1 ∷ [])), buy 0 17 26000 1, lines 2)
    ∷ (in_head (with_accepted_submits 4000000000) monday, buy 0 17 26000 1, no 17)
    ∷ (in_head (with_accepted_submits 3999999999) monday, buy 0 17 26000 1, lines 0)
    ∷ (held ((1, 17, negsuc 4) ∷ []) (one_defaulted 4999991), close_out 17 1000, no 17)
    ∷ (held ((1, 17, negsuc 4) ∷ []) (one_defaulted 4999990), close_out 17 1000, lines 2)
    -- 18: 31 December 2025 is the last business day from 2020 on
    ∷ (made 2020 2191 [] (5 ∷ []), close 0, no 18)
    ∷ (made 2020 2190 [] (5 ∷ []), close 0, lines 0)
    ∷ []

numbers : map (λ x. reply_of (apply_spec x.0 x.1).answer) answers ≡ map (λ x. x.2) answers
unfolding computed held with_defaulted answers
numbers = refl

-- ---- lower number wins: records with two causes that follow each other
two_causes : List (Tables × List ℕ × Reply)
two_causes =
    -- 1 and 3
    (in_head (with_time 86400) monday, 8 ∷ 1 ∷ [], no 1)
    -- submit: 4 and 5, 5 and 6, 6 and 7, 7 and 8, 8 and 9, 9 and 10, 10 and 17
    ∷ (with_defaulted (0 ∷ []) (in_head (with_time 36001) monday), buy 0 17 26000 1, no 4)
    ∷ (with_defaulted (1 ∷ []) monday, buy 1 5 26000 1, no_of 5 1)
    ∷ (in_prices (with_day_limits 5 1 25999) monday, buy 0 5 26000 1, no_of 6 5)
    ∷ (after (limits 17 1 26000 ∷ map (λ i. buy 0 17 26000 1) (from 0 5)), buy 0 17 26001 1, no 7)
    ∷ (tables_after (made 2021 369 [] (5 ∷ [])) (map (λ i. buy 0 17 26000 1) (from 0 5)), buy 0 17 26000 1, no 8)
    ∷ (made 2021 369 [] (5 ∷ []), submit 36000 Teye Buy 0 17 26000 6, no 9)
    ∷ (in_head (with_accepted_submits 4000000000) monday, submit 36000 Teye Buy 0 17 26000 1, no 10)
    -- cancel: 4 and 12
    ∷ (in_head (with_time 36001) monday, cancel 36000 0 0, no 4)
    -- close-out: 6 and 14, 14 and 15, 16 and 17
    ∷ (monday, close_out 5 1000, no_of 6 5)
    ∷ (monday, close_out 17 1000, no 14)
    ∷ (one_defaulted 5000000, close_out 17 1000, no 16)
    -- close of day: 4 and 18
    ∷ (in_head (with_time 36001) (made 2020 2191 [] (5 ∷ [])), close 36000, no 4)
    ∷ []

lower_number_wins : map (λ x. reply_of (apply_spec x.0 x.1).answer) two_causes ≡ map (λ x. x.2) two_causes
unfolding computed held with_defaulted two_causes
lower_number_wins = refl

-- ---- making a ledger: 2 without a member; 1, before 2, with a head of 223 places
header : ℕ → List ℕ
header n = header_bytes (record { first_year = 2021; start_day = 369; members = n; holidays = []; limits = 5 ∷ [] })

makings : List (Tables × List ℕ × Reply)
makings = (zero_tables, header 1, lines 0) ∷ (zero_tables, header 0, no 2) ∷ (with_head (replicate 223 0) zero_tables, header 0, no 1) ∷ []

made_numbers : map (λ x. reply_of (make_spec x.0 x.1).answer) makings ≡ map (λ x. x.2) makings
unfolding computed header makings
made_numbers = refl
