-- Document 01, "Records": every field of every kind of record, with numbers that are sound there and numbers that are out of range.
use Rattle.std.specs.Prelude.{ℕ, ◌-◌, ◌≡◌, refl, Bool, true, false, length, take, set, Option, Some, None}
use mathlib.Core.List.{List, [], ◌∷◌, ◌++◌, map, flat_map}
use Rattle.arith.specs.Lists.{from}
use Rattle.rules.specs.declared.field.Field.TheVariants.{Kind}
use Rattle.rules.specs.Fields.{times_over, fields_of_kind, bytes_by}
use Rattle.rules.specs.Records.{read_of}
use Rattle.rules.specs.Computed.{computed}
use Rattle.rules.specs.declared.event.Event.{Event}

-- The bytes of a record of a kind with so many legs, by its numbers, kind first.
bytes : ℕ → ℕ → List ℕ → List ℕ
bytes kind legs numbers = bytes_by (Kind ∷ fields_of_kind kind legs) numbers

is_sound : Option Event → Bool
is_sound (Some e) = true
is_sound None = false

-- ---- sound records of a ledger of three members
submit : List ℕ
submit = 1 ∷ 36000 ∷ 1 ∷ 17 ∷ 0 ∷ 0 ∷ 26000 ∷ 5 ∷ []

cancel : List ℕ
cancel = 2 ∷ 36000 ∷ 1 ∷ 7 ∷ []

day_limits : List ℕ
day_limits = 3 ∷ 17 ∷ 25000 ∷ 27000 ∷ []

proposal : List ℕ
proposal = 4 ∷ 2 ∷ 1 ∷ 5 ∷ 26000 ∷ 2 ∷ 5 ∷ 26000 ∷ []

default : List ℕ
default = 5 ∷ 1 ∷ []

close_out : List ℕ
close_out = 6 ∷ 17 ∷ 500 ∷ []

close_of_day : List ℕ
close_of_day = 7 ∷ 61200 ∷ []

-- ---- kind, legs, the record, the place of a number, what is sound there, what is out of range
ranges : List (ℕ × ℕ × List ℕ × ℕ × List ℕ × List ℕ)
ranges =
    -- time, member, contract, side, order kind, price, lots
    (1, 0, submit, 1, 0 ∷ 86399 ∷ [], 86400 ∷ [])
    ∷ (1, 0, submit, 2, 0 ∷ 2 ∷ [], 3 ∷ [])
    ∷ (1, 0, submit, 3, 0 ∷ 101 ∷ [], 102 ∷ [])
    ∷ (1, 0, submit, 4, 0 ∷ 1 ∷ [], 2 ∷ 255 ∷ [])
    ∷ (1, 0, submit, 5, 0 ∷ 1 ∷ 2 ∷ [], 3 ∷ 255 ∷ [])
    ∷ (1, 0, submit, 6, 1 ∷ 1000000 ∷ [], 0 ∷ 1000001 ∷ [])
    ∷ (1, 0, submit, 7, 1 ∷ 100 ∷ [], 0 ∷ 101 ∷ [])
    -- time, member, order number
    ∷ (2, 0, cancel, 1, 0 ∷ 86399 ∷ [], 86400 ∷ [])
    ∷ (2, 0, cancel, 2, 0 ∷ 2 ∷ [], 3 ∷ [])
    ∷ (2, 0, cancel, 3, 0 ∷ 4294967295 ∷ [], [])
    -- contract, low up to the high, high from the low on
    ∷ (3, 0, day_limits, 1, 0 ∷ 101 ∷ [], 102 ∷ [])
    ∷ (3, 0, day_limits, 2, 1 ∷ 27000 ∷ [], 0 ∷ 27001 ∷ [])
    ∷ (3, 0, day_limits, 3, 25000 ∷ 1000000 ∷ [], 24999 ∷ 1000001 ∷ [])
    -- of each leg order number, lots, price
    ∷ (4, 2, proposal, 2, 0 ∷ 4294967295 ∷ [], [])
    ∷ (4, 2, proposal, 3, 1 ∷ 100 ∷ [], 0 ∷ 101 ∷ [])
    ∷ (4, 2, proposal, 4, 1 ∷ 1000000 ∷ [], 0 ∷ 1000001 ∷ [])
    ∷ (4, 2, proposal, 6, 1 ∷ 100 ∷ [], 0 ∷ 101 ∷ [])
    ∷ (4, 2, proposal, 7, 1 ∷ 1000000 ∷ [], 0 ∷ 1000001 ∷ [])
    -- member; contract, ratio; time
    ∷ (5, 0, default, 1, 0 ∷ 2 ∷ [], 3 ∷ [])
    ∷ (6, 0, close_out, 1, 0 ∷ 101 ∷ [], 102 ∷ [])
    ∷ (6, 0, close_out, 2, 1 ∷ 1000 ∷ [], 0 ∷ 1001 ∷ [])
    ∷ (7, 0, close_of_day, 1, 0 ∷ 86399 ∷ [], 86400 ∷ [])
    ∷ []

ranges_of_fields : map (λ x. map (λ n. is_sound (read_of 3 (bytes x.0 x.1 (set x.2 x.3 n)))) (x.4 ++ x.5)) ranges
    ≡ map (λ x. map (λ n. true) x.4 ++ map (λ n. false) x.5) ranges
unfolding computed fields_of_kind times_over bytes_by bytes is_sound ranges submit cancel day_limits proposal default close_out close_of_day
ranges_of_fields = refl

-- ---- what is no field of its own
-- 2 to 12 legs.
with_legs : ℕ → List ℕ
with_legs n = bytes 4 n (4 ∷ n ∷ flat_map (λ i. i ∷ 5 ∷ 26000 ∷ []) (from 0 n))

numbers_of_legs : map (λ n. is_sound (read_of 3 (with_legs n))) (2 ∷ 12 ∷ 0 ∷ 1 ∷ 13 ∷ []) ≡ true ∷ true ∷ false ∷ false ∷ false ∷ []
unfolding computed fields_of_kind times_over bytes_by bytes is_sound with_legs
numbers_of_legs = refl

-- The reader is given a count of 1 to 32 members.
counts_of_members : map (λ n. is_sound (read_of n (bytes 7 0 close_of_day))) (1 ∷ 32 ∷ 0 ∷ 33 ∷ []) ≡ true ∷ true ∷ false ∷ false ∷ []
unfolding computed fields_of_kind bytes_by bytes is_sound close_of_day
counts_of_members = refl

-- A record of each kind: whole, cut by a byte, with a surplus byte. There is no kind 0 and no kind 8.
whole : List (List ℕ)
whole =
    bytes 1 0 submit
    ∷ bytes 2 0 cancel
    ∷ bytes 3 0 day_limits
    ∷ bytes 4 2 proposal
    ∷ bytes 5 0 default
    ∷ bytes 6 0 close_out
    ∷ bytes 7 0 close_of_day
    ∷ []

whole_records : map (λ s. map (λ r. is_sound (read_of 3 r)) (s ∷ take (length s - 1) s ∷ (s ++ (0 ∷ [])) ∷ [])) whole
    ≡ map (λ s. true ∷ false ∷ false ∷ []) whole
unfolding computed fields_of_kind times_over bytes_by bytes is_sound whole submit cancel day_limits proposal default close_out close_of_day
whole_records = refl

unknown_kinds : map (λ kind. is_sound (read_of 3 (kind ∷ 1 ∷ []))) (5 ∷ 0 ∷ 8 ∷ 255 ∷ []) ≡ true ∷ false ∷ false ∷ false ∷ []
unfolding computed is_sound
unknown_kinds = refl
