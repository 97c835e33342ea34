use mathlib.Core.Path.{◌≡◌}
use Prim.Native.Nat.{◌+◌, ◌*◌, ◌≤◌}
use lib.ListN.{drop}
use Rattle.rules.specs.Fields.{widths}
use Rattle.record_kinds.proofs.lengths.length_of.Given as goal

abbrev pub invariant-loop-field : goal.invariant-loop-field
invariant-loop-field l = (l.bytes ≤ 4 * l.field-index) × (l.bytes + widths (drop l.field-index l.fields) ≡ widths l.fields)
