-- Which numbers can stand in which fields.
use Rattle.std.specs.Prelude.{ℕ, ◌^◌, ◌<◌, List, [], ◌∷◌}
use Rattle.rules.specs.declared.event.Event.{Event}
use Rattle.rules.specs.declared.field.Field.{Field}
use Rattle.rules.specs.Fields.{width_of, kind_fields}
use Rattle.rules.specs.Records.{kind_number, event_numbers}

-- One number for each field, which fits its bytes.
unfoldable pub Fits : List Field → List ℕ → Type 0
Fits [] [] = Unit {0}
Fits [] (n ∷ ns) = ⊥
Fits (f ∷ fs) [] = ⊥
Fits (f ∷ fs) (n ∷ ns) = (n < 256 ^ width_of f) × Fits fs ns

-- The numbers of an event fit the fields of its kind.
abbrev pub EventFits : Event → Type 0
EventFits e = Fits (kind_fields (kind_number e)) (event_numbers e)
