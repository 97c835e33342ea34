use native.Mathlib.Omega.{arith}
use mathlib.Core.Path.{refl}
use Prim.Native.Nat.{◌<◌}
use lib.ListN.{length}
use Rattle.arith.specs.Columns.{padded}
use Rattle.rules.specs.declared.field.Field.TheVariants.{LetterV, Kind}
use Rattle.rules.specs.Fields.{widths, kind_fields, numbers_at}
use Rattle.record_kinds.specs.Numbers.{most_numbers}
use Rattle.record_kinds.proofs.ByKind.{field_there}
use Rattle.codec.proofs.FieldBytes.{width}
use Rattle.codec.proofs.FieldLoops.{place_next, field_inside, numbers_next}
use Rattle.codec.proofs.Fields.{numbers_read}
use Rattle.codec.proofs.read.record_numbers.Goals as goal

pub loop-i-init : goal.loop-i-init
unfolding widths numbers_at padded
loop-i-init c = (refl, refl)

pub number_at-requires : goal.number_at-requires
number_at-requires c =
    let l = c.loop-i in
    let fields = c.kind_fields-fields.ensures.0 in
    let here : l.i < length (kind_fields c.args.kind) = rw fields at c.loop-i-test.true in
    let w = rw fields at c.width_of-width.ensures.0 in
    (rw w (width _), field_inside _ l.i here (field_there _ l.i LetterV Kind here) w l.invariant.0 _ c.requires.1)

pub overflow_add-at : goal.overflow_add-at
overflow_add-at c =
    let l = c.loop-i in
    let fields = c.kind_fields-fields.ensures.0 in
    let here : l.i < length (kind_fields c.args.kind) = rw fields at c.loop-i-test.true in
    let w = rw fields at c.width_of-width.ensures.0 in
    let inside = field_inside _ l.i here (field_there _ l.i LetterV Kind here) w l.invariant.0 _ c.requires.1 in
    omega arith

pub loop-i-preserved : goal.loop-i-preserved
loop-i-preserved c =
    let l = c.loop-i in
    let fields = c.kind_fields-fields.ensures.0 in
    let here : l.i < length (kind_fields c.args.kind) = rw fields at c.loop-i-test.true in
    let w = rw fields at c.width_of-width.ensures.0 in
    let field = field_there (kind_fields c.args.kind) l.i LetterV Kind here in
    let all : length c.kind_fields-fields.result.now < most_numbers = omega (arith, c.kind_fields-fields.ensures.1) in
    let few = rw fields at all in
    (place_next _ l.i here field w l.invariant.0, numbers_next _ l.i here field w l.invariant.0 _ _ most_numbers few c.number_at.ensures l.invariant.1)

pub returns : goal.returns
returns c =
    let l = c.loop-i in
    numbers_read _ _ most_numbers l.i c.requires.0 (rw c.kind_fields-fields.ensures.0 at c.loop-i-test.false) l.invariant.1
