use Prim.Native.Nat.{◌+◌, ◌*◌}
use mathlib.Core.List.{map}
use mathlib.Core.Path.{◌≡◌}
use Rattle.arith.specs.Lists.{from}
use Rattle.rules.specs.Fields.{number_at}
use Rattle.arith.specs.Columns.{padded}
use Rattle.header.proofs.reader.column_at.Given as goal

abbrev pub invariant-loop-i : goal.invariant-loop-i
invariant-loop-i g l = l.column ≡ padded g.row.PLACES (map (λ j. number_at l.bytes (l.at + l.width * j) l.width) (from 0 l.i))
