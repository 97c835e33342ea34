-- A proposal's legs in an array of 12 places, and what a record holds of them.
use Rattle.std.specs.Prelude.{ℕ, ◌*◌, ◌-◌, ◌≤◌, cond, ◌&&◌, List, [], ◌++◌, map, ◌≡◌, eqb, leb, length, get_or, replicate}
use Rattle.arith.specs.Lists.{from}
use Rattle.rules.specs.declared.event.Leg.{Leg}
use Rattle.rules.specs.Ranges.{most_legs}
use Rattle.rules.specs.Fields.{proposal_kind}
use Rattle.rules.specs.Records.{kind_byte, proposal_legs_byte, leg_place, legs_of, leg_at}

-- What stands in the places past a proposal's legs.
abbrev pub no_leg : Leg
no_leg = record { order = 0; lots = record { 0 = 0 }; price = record { 0 = 0 } }

-- Legs in 12 places.
unfoldable pub in_places : List Leg → List Leg
in_places legs = legs ++ replicate (most_legs - length legs) no_leg

-- The legs that a record holds whole: those of a proposal of at most 12, with none cut and nothing past them.
unfoldable pub held_legs : List ℕ → List Leg
held_legs s =
    let count = get_or s proposal_legs_byte 0 in
    cond (eqb (get_or s kind_byte 0) proposal_kind && leb count most_legs && eqb (length s) (leg_place count)) (legs_of s) []

-- The first n legs in a proposal's bytes.
abbrev pub legs_to : List ℕ → ℕ → List Leg
legs_to s n = map (λ j. leg_at s (leg_place j)) (from 0 n)

-- A record s holds n legs whole, at most 12, in its bytes.
pub record Held (s : List ℕ) (n : ℕ) : Type 0 where
  pub legs : held_legs s ≡ legs_to s n
  pub most : n ≤ most_legs
  pub inside : 10 * n ≤ length s - 2
