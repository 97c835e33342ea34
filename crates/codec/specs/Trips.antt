-- The round trips and the splitter, as statements about what the functions promise.
use Rattle.std.specs.Prelude.{ℕ, ◌≤◌, List, ◌++◌, ◌≡◌, T, ltb, length, take, Some, Ok}
use Rattle.arith.specs.Lists.{every, over}
use Rattle.rules.specs.declared.event.Event.{Event}
use Rattle.rules.specs.declared.event.Leg.{Leg}
use Rattle.rules.specs.declared.event.Front.TheVariants.{Whole}
use Rattle.rules.specs.Records.{write_spec, read_of, front_of}
use Rattle.record_kinds.specs.Numbers.{leg_count}
use Rattle.codec.specs.Legs.{in_places, held_legs}

-- What write_record wrote, read_record and read_legs read: the event, and its legs in the first places.
abbrev pub WrittenIsRead : Type 0
WrittenIsRead =
    (n : ℕ) (e : Event) (legs : List Leg) (out : List ℕ) (k : ℕ) (after : List ℕ)
    → record { answer = Ok k; after = after } ≡ write_spec n e (take (leg_count e) legs) out
    → (read_of n (take k after) ≡ Some e) × (take (leg_count e) (in_places (held_legs (take k after))) ≡ take (leg_count e) legs)

-- What read_record says and read_legs gives, write_record writes as the same bytes.
abbrev pub ReadIsWritten : Type 0
ReadIsWritten =
    (n : ℕ) (s : List ℕ) (e : Event) (out : List ℕ) → T (every (λ b. ltb b 256) s) → read_of n s ≡ Some e → length s ≤ length out
    → write_spec n e (take (leg_count e) (in_places (held_legs s))) out ≡ record { answer = Ok (length s); after = over 0 s out }

-- A record that read_record takes is the one that front_record finds in what begins with it.
abbrev pub SoundStandsWhole : Type 0
SoundStandsWhole = (n : ℕ) (s rest : List ℕ) (e : Event) → read_of n s ≡ Some e → front_of (s ++ rest) ≡ Whole (length s)
