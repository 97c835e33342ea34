use native.Mathlib.Omega.{arith}
use mathlib.Core.Path.{sym, ◌∙◌}
use lib.Seq.{length-take-le}
use Rattle.record_kinds.specs.Numbers.{leg_count}
use Rattle.codec.proofs.Written.{length_proposal, some_bytes, no_legs_put, legs_put}
use Rattle.codec.proofs.write.put_fields.Goals as goal

pub put_kind_fields-requires : goal.put_kind_fields-requires
put_kind_fields-requires c =
    let e = c.args.event in
    (omega (arith, some_bytes e (leg_count e), c.requires.0), c.requires.1)

pub put_legs-requires : goal.put_legs-requires
put_legs-requires c =
    let e = c.args.event in
    let sized = length_proposal e (sym c.kind_number.ensures.0 ∙ c.if-kind_number-eq-PROPOSAL.true) in
    let many = length-take-le (leg_count e) c.args.legs.now c.requires.3 in
    rw (c.leg_count.ensures, many) (omega arith, c.requires.2)

pub returns-then-kind_number-eq-PROPOSAL : goal.returns-then-kind_number-eq-PROPOSAL
returns-then-kind_number-eq-PROPOSAL c =
    let e = c.args.event in
    let kind-number = c.kind_number in
    let fields = c.put_kind_fields in
    let put = rw c.leg_count.ensures at c.put_legs.ensures in
    legs_put e _ _ _ fields.ensures _ (sym kind-number.ensures.0 ∙ c.if-kind_number-eq-PROPOSAL.true) put (omega (arith, some_bytes e (leg_count e), c.requires.0))

pub returns-else-kind_number-eq-PROPOSAL : goal.returns-else-kind_number-eq-PROPOSAL
returns-else-kind_number-eq-PROPOSAL c = no_legs_put c.args.event _ _ _ c.put_kind_fields.ensures (λ h. c.if-kind_number-eq-PROPOSAL.false (c.kind_number.ensures.0 ∙ h))
