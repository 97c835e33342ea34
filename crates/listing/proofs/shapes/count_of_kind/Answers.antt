use native.Mathlib.Omega.{arith}
use Rattle.listing.proofs.FieldPlaces.{count_with_legs, only_count, count_without}
use Rattle.listing.proofs.shapes.count_of_kind.Goals as goal

pub returns-then-kind-eq-PROPOSAL : goal.returns-then-kind-eq-PROPOSAL
returns-then-kind-eq-PROPOSAL c =
    let a = c.args in
    let count = c.field_count-count.ensures.0 in
    (count_with_legs a.kind a.legs c.if-kind-eq-PROPOSAL.true count, omega (arith, only_count a.kind a.legs c.if-kind-eq-PROPOSAL.true count))

pub returns : goal.returns
returns c =
    let a = c.args in
    let count = c.field_count-count.ensures in
    (count_without a.kind a.legs c.if-kind-eq-PROPOSAL.false count.0, omega (arith, count.1))
