use mathlib.Core.Path.{◌≡◌}
use Rattle.codec.specs.Legs.{in_places, legs_to}
use Rattle.codec.proofs.legs.read_legs.Given as goal

abbrev pub invariant-loop-i : goal.invariant-loop-i
invariant-loop-i l = l.legs ≡ in_places (legs_to l.bytes l.i)
