-- Document 01, "Fresh: zero rows, counts and GGFs, empty book, no marks, low 1, high 1,000,000, the start day, time 0 … surplus places
-- stay untouched": a ledger made in tables that hold 9 everywhere.
use Rattle.std.specs.Prelude.{◌≡◌, refl, List, [], ◌∷◌, map, get_or, replicate, ℤ, pos}
use Rattle.rules.specs.Header.{header_bytes}
use Rattle.rules.specs.Ledger.{Tables, lent}
use Rattle.rules.specs.Refusals.{make_spec}
use Rattle.rules.specs.Computed.{computed}

-- First year 2021, day 369, one holiday, two members.
fresh_of_nines : Tables
fresh_of_nines =
    (make_spec
    (lent (replicate 224 9) (replicate 510 9) (replicate 3264 (pos 9)) (replicate 3264 (pos 9)) (replicate 2048 9) (replicate 800 (pos 9)))
    (header_bytes (record { first_year = 2021; start_day = 369; members = 2; holidays = 370 ∷ []; limits = 1000 ∷ 66051 ∷ [] }))
    ).after

-- The ledger's eight numbers, the holiday and the place behind it; then limits, marks and counts of the two members and of a third.
fresh_head_lem : map (λ i. get_or fresh_of_nines.head i 0) (0 ∷ 1 ∷ 2 ∷ 3 ∷ 4 ∷ 5 ∷ 6 ∷ 7 ∷ 8 ∷ 9 ∷ 128 ∷ 129 ∷ 130 ∷ 160 ∷ 161 ∷ 162 ∷ 192 ∷ 193 ∷ 194 ∷ [])
    ≡ 2021 ∷ 2 ∷ 1 ∷ 369 ∷ 0 ∷ 0 ∷ 0 ∷ 0 ∷ 370 ∷ 9 ∷ 1000 ∷ 66051 ∷ 9 ∷ 0 ∷ 0 ∷ 9 ∷ 0 ∷ 0 ∷ 9 ∷ []
unfolding computed fresh_of_nines
fresh_head_lem = refl

-- GGF, low, high, M and V of the first and of the last contract.
fresh_prices_lem : map (λ i. get_or fresh_of_nines.prices i 7) (0 ∷ 1 ∷ 2 ∷ 3 ∷ 4 ∷ 505 ∷ 506 ∷ 507 ∷ 508 ∷ 509 ∷ [])
    ≡ 0 ∷ 1 ∷ 1000000 ∷ 0 ∷ 0 ∷ 0 ∷ 1 ∷ 1000000 ∷ 0 ∷ 0 ∷ []
unfolding computed fresh_of_nines
fresh_prices_lem = refl

-- Lots and value of the two members and of a third, in the first and in the last contract.
abbrev of_members : List ℤ → List ℤ
of_members rows = map (λ i. get_or rows i (pos 7)) (0 ∷ 1 ∷ 2 ∷ 3232 ∷ 3233 ∷ 3234 ∷ [])

fresh_rows_lem : map of_members (fresh_of_nines.lots ∷ fresh_of_nines.value ∷ [])
    ≡ (pos 0 ∷ pos 0 ∷ pos 9 ∷ pos 0 ∷ pos 0 ∷ pos 9 ∷ []) ∷ (pos 0 ∷ pos 0 ∷ pos 9 ∷ pos 0 ∷ pos 0 ∷ pos 9 ∷ []) ∷ []
unfolding computed fresh_of_nines
fresh_rows_lem = refl

-- The book is empty since the count of orders is 0: its places and the lines stay.
fresh_book : (fresh_of_nines.book ≡ replicate 2048 9) × (fresh_of_nines.lines ≡ replicate 800 (pos 9))
unfolding computed fresh_of_nines
fresh_book = (refl, refl)
