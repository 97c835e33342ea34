use mathlib.Core.List.{flat_map, map}
use mathlib.Core.Path.{◌≡◌}
use lib.ListN.{get_or}
use Rattle.arith.specs.Lists.{from, over}
use Rattle.rules.specs.Records.{leg_bytes}
use Rattle.codec.specs.Legs.{no_leg}
use Rattle.codec.proofs.write.put_legs.Given as goal

abbrev pub invariant-loop-i : goal.invariant-loop-i
invariant-loop-i l = l.out ≡ over 2 (flat_map leg_bytes (map (λ j. get_or l.legs j no_leg) (from 0 l.i))) l.initial.out
