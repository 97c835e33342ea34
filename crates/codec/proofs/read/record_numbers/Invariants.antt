use mathlib.Core.List.{◌∷◌}
use mathlib.Core.Path.{◌≡◌}
use Prim.Native.Nat.{◌+◌}
use lib.ListN.{take}
use Rattle.arith.specs.Columns.{padded}
use Rattle.rules.specs.Fields.{widths, kind_fields, numbers_at}
use Rattle.record_kinds.specs.Numbers.{most_numbers}
use Rattle.codec.proofs.read.record_numbers.Given as goal

abbrev pub invariant-loop-i : goal.invariant-loop-i
invariant-loop-i l = (l.at ≡ 1 + widths (take l.i (kind_fields l.kind)))
    × (l.numbers ≡ padded most_numbers (l.kind ∷ numbers_at l.bytes 1 (take l.i (kind_fields l.kind))))
