use mathlib.Core.Path.{◌≡◌}
use Prim.Native.Nat.{◌+◌}
use lib.ListN.{length, take, drop}
use Rattle.arith.specs.Lists.{over}
use Rattle.rules.specs.Fields.{widths, kind_fields, bytes_by}
use Rattle.rules.specs.Records.{kind_number}
use Rattle.codec.proofs.write.put_kind_fields.Given as goal

abbrev pub invariant-loop-i : goal.invariant-loop-i
invariant-loop-i l = (l.at ≡ 1 + widths (take l.i (kind_fields (kind_number l.fn.event))))
    × (length l.out ≡ length l.initial.out)
    × (l.out ≡ over 1 (bytes_by (take l.i (kind_fields (kind_number l.fn.event))) (drop 1 l.numbers)) l.initial.out)
