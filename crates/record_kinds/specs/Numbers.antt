-- How many numbers an event has, and how many legs stand beside it.
use Rattle.std.specs.Prelude.{ℕ, cond, get_or}
use Rattle.rules.specs.declared.event.Event.{Event}
use Rattle.rules.specs.Fields.{has_legs}
use Rattle.rules.specs.Records.{kind_number, event_numbers}

-- At most so many fields after the kind, a submit's, and so many numbers with it.
abbrev pub most_fields : ℕ
most_fields = 7

abbrev pub most_numbers : ℕ
most_numbers = 8

-- A proposal's first number says how many legs stand beside it; no other event has any.
abbrev pub leg_count : Event → ℕ
leg_count e = cond (has_legs (kind_number e)) (get_or (event_numbers e) 0 0) 0
