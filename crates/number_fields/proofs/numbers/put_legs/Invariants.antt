use mathlib.Core.List.{flat_map, map}
use mathlib.Core.Path.{◌≡◌}
use lib.ListN.{get_or}
use Rattle.arith.specs.Lists.{from, over}
use Rattle.codec.specs.Legs.{no_leg}
use Rattle.rules.specs.Records.{leg_numbers}
use Rattle.number_fields.proofs.numbers.put_legs.Given as goal

abbrev pub invariant-loop-i : goal.invariant-loop-i
invariant-loop-i l = l.row ≡ over 2 (flat_map leg_numbers (map (λ j. get_or l.legs j no_leg) (from 0 l.i))) l.initial.row
