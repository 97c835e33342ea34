use mathlib.Core.List.{map}
use mathlib.Core.Path.{◌≡◌}
use Rattle.arith.specs.Lists.{from}
use Rattle.rules.specs.Records.{leg_in}
use Rattle.codec.specs.Legs.{in_places}
use Rattle.number_fields.specs.RecordFields.{leg_field}
use Rattle.number_fields.proofs.event.legs_in.Given as goal

abbrev pub invariant-loop-i : goal.invariant-loop-i
invariant-loop-i l = l.legs ≡ in_places (map (λ j. leg_in l.row (leg_field j)) (from 0 l.i))
