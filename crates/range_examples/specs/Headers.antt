-- Document 01, "Records": every field of a header at each end of its range, and one past it.
use Rattle.std.specs.Prelude.{ℕ, ◌≡◌, refl, true, false, List, [], ◌∷◌, map, length, set, replicate}
use Rattle.arith.specs.Lists.{from}
use Rattle.rules.specs.Header.{header_bytes, begins_with_header}
use Rattle.rules.specs.Bytes.{header_example}
use Rattle.rules.specs.Computed.{computed}
use Rattle.rules.specs.ExampleRecords.{Each}

-- First year, start day, holidays, one limit per member.
header : ℕ → ℕ → List ℕ → List ℕ → List ℕ
header year start days limits =
    header_bytes (record { first_year = year; start_day = start; members = length limits; holidays = days; limits = limits })

ranges_of_headers : Each begins_with_header
    -- first year 2020 to 2094; the start day lies in the six years from 2095 on too
    ((header 2020 1 [] (5 ∷ []), true)
    ∷ (header 2019 1 [] (5 ∷ []), false)
    ∷ (header 2094 27396 [] (5 ∷ []), true)
    ∷ (header 2095 27396 [] (5 ∷ []), false)
    -- start day in the span, 366 to 2556, no Saturday, no Sunday, no holiday
    ∷ (header 2021 366 [] (5 ∷ []), true)
    ∷ (header 2021 365 [] (5 ∷ []), false)
    ∷ (header 2021 2556 [] (5 ∷ []), true)
    ∷ (header 2021 2557 [] (5 ∷ []), false)
    ∷ (header 2021 367 [] (5 ∷ []), false)
    ∷ (header 2021 368 [] (5 ∷ []), false)
    ∷ (header 2021 369 (370 ∷ []) (5 ∷ []), true)
    ∷ (header 2021 369 (369 ∷ []) (5 ∷ []), false)
    -- 1 to 32 members
    ∷ (header 2021 369 [] (replicate 32 5), true)
    ∷ (header 2021 369 [] (replicate 33 5), false)
    ∷ (header 2021 369 [] [], false)
    -- 0 to 120 holidays, strictly rising in the span
    ∷ (header 2021 369 (from 400 120) (5 ∷ []), true)
    ∷ (header 2021 369 (from 400 121) (5 ∷ []), false)
    ∷ (header 2021 369 (366 ∷ 367 ∷ 2556 ∷ []) (5 ∷ []), true)
    ∷ (header 2021 369 (365 ∷ 367 ∷ 2556 ∷ []) (5 ∷ []), false)
    ∷ (header 2021 369 (366 ∷ 367 ∷ 2557 ∷ []) (5 ∷ []), false)
    ∷ (header 2021 369 (366 ∷ 366 ∷ 2556 ∷ []) (5 ∷ []), false)
    ∷ (header 2021 369 (366 ∷ 2556 ∷ 367 ∷ []) (5 ∷ []), false)
    -- limits of 0 to 100,000 lots, of each member
    ∷ (header 2021 369 [] (0 ∷ 100000 ∷ []), true)
    ∷ (header 2021 369 [] (100001 ∷ 0 ∷ []), false)
    ∷ (header 2021 369 [] (0 ∷ 100001 ∷ []), false)
    ∷ [])
unfolding computed header
ranges_of_headers = refl

-- The header of Bytes with one of its first five bytes, VJR and the version, one higher.
letters_and_version_lem : map (λ (x : ℕ × ℕ). begins_with_header (set header_example x.0 x.1)) ((0, 87) ∷ (1, 75) ∷ (2, 83) ∷ (3, 1) ∷ (4, 2) ∷ (4, 1) ∷ [])
    ≡ false ∷ false ∷ false ∷ false ∷ false ∷ true ∷ []
unfolding computed
letters_and_version_lem = refl
