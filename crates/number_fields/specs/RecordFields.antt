-- A record as a row of numbers, for a host: its kind, then its fields in the order in which the record has them.
use Rattle.std.specs.Prelude.{ℕ, ◌+◌, ◌*◌, cond, not, ◌||◌, List, [], ◌∷◌, map, leb, ltb, length, get_or, Option, Some, None, Ok, Err}
use Rattle.arith.specs.Lists.{from, over}
use Rattle.rules.specs.declared.refusal.Refusal.TheVariants.{TableUnsound, RecordUnsound}
use Rattle.rules.specs.declared.event.Event.{Event}
use Rattle.rules.specs.declared.event.Leg.{Leg}
use Rattle.rules.specs.Answers.{Outcome, decide}
use Rattle.rules.specs.Fields.{proposal_fields, leg_fields, has_legs}
use Rattle.rules.specs.Ranges.{most_legs}
use Rattle.rules.specs.Records.{numbers_of, event_by_kind, leg_in, write_spec, legs_of, read_of}

-- ---- places
-- Of every kind.
abbrev pub kind_field : ℕ
kind_field = 0

-- How many legs a proposal has, its one field.
abbrev pub proposal_legs_field : ℕ
proposal_legs_field = 1

abbrev pub first_leg_field : ℕ
first_leg_field = 1 + length proposal_fields

-- Where leg j begins, and so where a proposal of j legs ends: order number, lots and price of each.
abbrev pub leg_field : ℕ → ℕ
leg_field j = first_leg_field + length leg_fields * j

-- How many numbers a row for a record has: as many as a proposal of 12 legs. Numbers past a record's own are surplus.
abbrev pub record_fields : ℕ
record_fields = leg_field most_legs

-- ---- the event of a row, its fields in range or not
-- A proposal of more than 12 legs is no event: a row has room for 12.
unfoldable pub row_event : ℕ → List ℕ → Option Event
unfolding event_by_kind
row_event kind f = cond (not (has_legs kind) || leb (get_or f proposal_legs_field 0) most_legs) (event_by_kind kind f) None

abbrev pub event_in : List ℕ → Option Event
event_in f = row_event (get_or f kind_field 0) f

-- The first n legs.
unfoldable pub first_legs : List ℕ → ℕ → List Leg
first_legs f n = map (λ j. leg_in f (leg_field j)) (from 0 n)

-- The legs of a row, if it is a proposal.
unfoldable pub legs_in : List ℕ → List Leg
legs_in f = cond (has_legs (get_or f kind_field 0)) (first_legs f (get_or f proposal_legs_field 0)) []

-- ---- bytes read to a row, and written from one
-- An event's numbers over the front of a row; the answer gives how many.
abbrev pub with_numbers : Event → List Leg → List ℕ → Outcome (List ℕ)
with_numbers e legs row = record { answer = Ok (length (numbers_of e legs)); after = over 0 (numbers_of e legs) row }

abbrev pub with_reading : Option Event → List Leg → List ℕ → Outcome (List ℕ)
with_reading (Some e) legs row = with_numbers e legs row
with_reading None legs row = record { answer = Err RecordUnsound; after = row }

-- A short row is 1; then an unsound record is 3.
unfoldable pub read_fields : ℕ → List ℕ → List ℕ → Outcome (List ℕ)
read_fields n s row = decide ((ltb (length row) record_fields, TableUnsound) ∷ []) row (with_reading (read_of n s) (legs_of s) row)

abbrev pub write_reading : ℕ → Option Event → List Leg → List ℕ → Outcome (List ℕ)
write_reading n (Some e) legs out = write_spec n e legs out
write_reading n None legs out = record { answer = Err RecordUnsound; after = out }

-- A short row is 1; then a row that says no event is 3, as an event out of its ranges is; then a short output is 1.
unfoldable pub write_fields : ℕ → List ℕ → List ℕ → Outcome (List ℕ)
write_fields n row out = decide ((ltb (length row) record_fields, TableUnsound) ∷ []) out (write_reading n (event_in row) (legs_in row) out)
