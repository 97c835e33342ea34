use Rattle.std.proofs.Common.{arith}
use Rattle.printing.proofs.Lines.{begun, field_room, next_field, end_room, all_fields}
use Rattle.printing.proofs.put_line.Goals as goal

pub loop-field-init : goal.loop-field-init
loop-field-init c = (omega (arith, c.put_byte-end.auto.out), begun c.put_byte-end.ensures)

pub put_field-end-requires : goal.put_field-end-requires
put_field-end-requires c =
    let w = c.loop-field.invariant in
    omega (arith, w.0, field_room c.requires.0 _ c.args.fields.now c.requires.1 w.1 c.loop-field-test.true)

pub loop-field-preserved : goal.loop-field-preserved
loop-field-preserved c =
    let w = c.loop-field.invariant in
    (omega (arith, w.0, c.put_field-end.auto.out), next_field c.requires.0 _ c.args.fields.now c.requires.1 w.1 c.loop-field-test.true c.put_field-end.ensures)

pub put_byte-requires : goal.put_byte-requires
put_byte-requires c =
    let w = c.loop-field.invariant in
    omega (arith, w.0, end_room c.requires.0 _ c.args.fields.now c.requires.1 w.1 c.loop-field.auto.field-index-end)

pub returns : goal.returns
returns c =
    all_fields c.requires.0 _ c.args.fields.now c.requires.1 c.loop-field.invariant.1 c.loop-field.auto.field-index-end c.loop-field-test.false c.put_byte.ensures
