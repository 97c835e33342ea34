use Rattle.rules.specs.declared.field.Field.TheVariants.{Kind}
use Rattle.rules.specs.Fields.{fields_of_kind}
use Rattle.listing.proofs.FieldPlaces.{after_first}
use mathlib.Core.Path.{refl}
use native.Mathlib.Omega.{arith}
use Rattle.listing_words.specs.Fields.{fields_in}
use Rattle.listing.proofs.shapes.field_at.Goals as goal

pub field_of_kind-requires : goal.field_of_kind-requires
unfolding fields_in
field_of_kind-requires c = omega (arith, rw c.in-Record.is at c.requires)

pub returns-in-Header : goal.returns-in-Header
returns-in-Header c = rw c.in-Header.is (c.header_field.ensures _ (rw c.in-Header.is at c.requires))

pub returns-then-i-eq0 : goal.returns-then-i-eq0
unfolding fields_in
returns-then-i-eq0 c = rw (c.in-Record.is, c.if-i-eq0.true) refl

pub returns-else-i-eq0 : goal.returns-else-i-eq0
unfolding fields_in
returns-else-i-eq0 c = rw c.in-Record.is (after_first Kind (fields_of_kind _ _) _ c.if-i-eq0.false c.field_of_kind.ensures)
