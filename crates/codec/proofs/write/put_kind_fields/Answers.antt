use native.Mathlib.Omega.{arith}
use mathlib.Core.Path.{refl, sym, ap, ◌∙◌}
use Prim.Native.Nat.{◌<◌}
use lib.ListN.{length}
use lib.Seq.{get_or-drop}
use Rattle.rules.specs.declared.field.Field.TheVariants.{LetterV, Kind}
use Rattle.rules.specs.Fields.{widths, kind_fields}
use Rattle.rules.specs.Records.{kind_number}
use Rattle.record_kinds.proofs.ByKind.{field_there}
use Rattle.codec.proofs.FieldBytes.{width}
use Rattle.codec.proofs.FieldLoops.{place_next, field_inside, put_next, enough, number_fits, fields_put, none_put}
use Rattle.codec.proofs.write.put_kind_fields.Goals as goal

pub loop-i-init : goal.loop-i-init
unfolding widths
loop-i-init c = (refl, refl, none_put _ _)

pub put_number-requires : goal.put_number-requires
put_number-requires c =
    let l = c.loop-i in
    let k = kind_number c.args.event in
    let fields = c.kind_fields-fields.ensures.0 ∙ ap kind_fields c.kind_number.ensures.0 in
    let here : l.i < length (kind_fields k) = rw fields at c.loop-i-test.true in
    let w = rw fields at c.width_of-width.ensures.0 in
    let field = field_there (kind_fields k) l.i LetterV Kind here in
    let room = c.requires.0 in (
      rw w (width _),
      field_inside _ l.i here field w l.invariant.0 _ (omega arith),
      number_fits c.args.event _ _ c.put_numbers.ensures refl c.requires.1 l.i here field w,
    )

pub overflow_add-at : goal.overflow_add-at
overflow_add-at c =
    let l = c.loop-i in
    let k = kind_number c.args.event in
    let fields = c.kind_fields-fields.ensures.0 ∙ ap kind_fields c.kind_number.ensures.0 in
    let here : l.i < length (kind_fields k) = rw fields at c.loop-i-test.true in
    let w = rw fields at c.width_of-width.ensures.0 in
    let field = field_there (kind_fields k) l.i LetterV Kind here in
    let room = c.requires.0 in
    let inside = field_inside _ l.i here field w l.invariant.0 (length c.args.out.now) (omega arith) in
    omega arith

pub loop-i-preserved : goal.loop-i-preserved
loop-i-preserved c =
    let l = c.loop-i in
    let a = c.args in
    let k = kind_number a.event in
    let fields = c.kind_fields-fields.ensures.0 ∙ ap kind_fields c.kind_number.ensures.0 in
    let here : l.i < length (kind_fields k) = rw fields at c.loop-i-test.true in
    let w = rw fields at c.width_of-width.ensures.0 in
    let field = field_there (kind_fields k) l.i LetterV Kind here in
    let room = c.requires.0 in
    let inside = field_inside _ l.i here field w l.invariant.0 (length a.out.now) (omega arith) in
    let more = enough a.event _ _ c.put_numbers.ensures refl in (
      place_next _ l.i here field w l.invariant.0,
      omega arith,
      put_next _ l.i here field w l.invariant.0 _ (omega arith) _ _ _ (sym (get_or-drop 1 c.put_numbers.new.numbers l.i 0)) l.invariant.2 c.put_number.ensures (omega arith),
    )

pub returns : goal.returns
returns c =
    let l = c.loop-i in
    let fields = c.kind_fields-fields.ensures.0 ∙ ap kind_fields c.kind_number.ensures.0 in
    fields_put c.args.event _ _ c.put_numbers.ensures refl l.i _ (rw fields at c.loop-i-test.false) l.invariant.2
