use native.Mathlib.Omega.{arith}
use Prim.Native.Nat.{◌<◌}
use lib.ListN.{length}
use Rattle.rules.specs.declared.field.Field.TheVariants.{LetterV, Kind}
use Rattle.record_kinds.proofs.ByKind.{field_there, widths_next, widths_end}
use Rattle.record_kinds.proofs.lengths.length_of.Goals as goal

pub loop-field-preserved : goal.loop-field-preserved
loop-field-preserved c =
    let l = c.loop-field in
    let fields = c.args.fields.now in
    let width = c.width_of-bytes.ensures in
    let here : l.field-index < length fields = c.loop-field-test.true in
    (omega (arith, width), widths_next fields l.field-index l.bytes here (field_there fields l.field-index LetterV Kind here) width.0 l.invariant.1)

pub returns : goal.returns
returns c =
    let l = c.loop-field in
    (widths_end c.args.fields.now l.field-index l.bytes c.loop-field-test.false l.invariant.1, omega arith)
