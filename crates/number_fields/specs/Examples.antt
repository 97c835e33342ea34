-- The examples of rules, Bytes, as numbers, written out by hand.
use Rattle.std.specs.Prelude.{ℕ, ◌≡◌, refl, take, drop, Some, None}
use mathlib.Core.List.{List, [], ◌∷◌, map, flat_map}
use Rattle.arith.specs.Lists.{from, over}
use Rattle.rules.specs.Bytes.{examples}
use Rattle.rules.specs.Bytes as Bytes
use Rattle.number_fields.specs.HeaderFields.{with_header}
use Rattle.rules.specs.Records.{numbers_of}
use Rattle.number_fields.specs.RecordFields.{row_event, event_in}

abbrev pub numbers : List (List ℕ)
numbers =
    (1 ∷ 66051 ∷ 2 ∷ 17 ∷ 1 ∷ 2 ∷ 258000 ∷ 100 ∷ [])
    ∷ (1 ∷ 256 ∷ 0 ∷ 101 ∷ 0 ∷ 1 ∷ 1000000 ∷ 1 ∷ [])
    ∷ (1 ∷ 4660 ∷ 1 ∷ 34 ∷ 0 ∷ 0 ∷ 66051 ∷ 7 ∷ [])
    ∷ (2 ∷ 86399 ∷ 2 ∷ 16909060 ∷ [])
    ∷ (3 ∷ 5 ∷ 256 ∷ 65536 ∷ [])
    ∷ (4 ∷ 2 ∷ 1 ∷ 2 ∷ 256 ∷ 65536 ∷ 3 ∷ 65537 ∷ [])
    ∷ (5 ∷ 2 ∷ [])
    ∷ (6 ∷ 34 ∷ 256 ∷ [])
    ∷ (7 ∷ 61200 ∷ [])
    ∷ []

pub examples_in_numbers : map (λ x. numbers_of x.event x.legs) examples ≡ numbers
unfolding numbers_of flat_map
examples_in_numbers = refl

pub events_of_numbers : map event_in numbers ≡ map (λ x. Some x.event) examples
unfolding row_event
events_of_numbers = refl

-- Kinds 0 and 8, side 2, order kind 3, 13 legs.
pub no_events : map event_in
    ((0 ∷ [])
    ∷ (8 ∷ [])
    ∷ (1 ∷ 66051 ∷ 2 ∷ 17 ∷ 2 ∷ 2 ∷ 258000 ∷ 100 ∷ [])
    ∷ (1 ∷ 66051 ∷ 2 ∷ 17 ∷ 1 ∷ 3 ∷ 258000 ∷ 100 ∷ [])
    ∷ (4 ∷ 13 ∷ [])
    ∷ [])
    ≡ None ∷ None ∷ None ∷ None ∷ None ∷ []
unfolding row_event
no_events = refl

-- In a row of 5,000, 5,001 and so on: three members, two holidays; the places past them stay as they were.
pub header_in_numbers : take 8 (with_header Bytes.header_fields (from 5000 156)) ≡ 2021 ∷ 369 ∷ 3 ∷ 2 ∷ 370 ∷ 512 ∷ 5006 ∷ 5007 ∷ []
unfolding with_header over from
header_in_numbers = refl

pub limits_in_numbers : take 5 (drop 123 (with_header Bytes.header_fields (from 5000 156))) ≡ 5123 ∷ 1000 ∷ 66051 ∷ 100000 ∷ 5127 ∷ []
unfolding with_header over from
limits_in_numbers = refl
