use mathlib.Core.List.{flat_map, map}
use mathlib.Core.Path.{◌≡◌}
use lib.ListN.{get_or}
use Rattle.arith.specs.Lists.{from, over}
use Rattle.rules.specs.Fields.{number_bytes}
use Rattle.header.proofs.writer.put_numbers.Given as goal

abbrev pub invariant-loop-i : goal.invariant-loop-i
invariant-loop-i l = l.out ≡ over l.at (flat_map (number_bytes l.width) (map (λ j. get_or l.list j 0) (from 0 l.i))) l.initial.out
