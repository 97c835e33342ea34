use Rattle.listing.proofs.FieldPlaces.{own_at, leg_of_kind}
use Rattle.listing.proofs.shapes.field_of_kind.Goals as goal

pub returns-then-place-count : goal.returns-then-place-count
returns-then-place-count c =
    let a = c.args in
    own_at a.kind a.legs a.i c.field_count-count.ensures.0 c.if-place-count.true c.field_of.ensures

pub returns : goal.returns
returns c =
    let a = c.args in
    leg_of_kind a.kind a.legs a.i c.field_count-count.ensures.0 c.if-place-count.false c.requires c.leg_field.ensures
