use mathlib.Core.Path.{sym, ◌∙◌}
use Rattle.codec.proofs.PlacedLegs.{judged_proposal, judged_legless}
use Rattle.codec.proofs.sound.is_event_sound.Goals as goal

pub returns-then-kind_number-eq-PROPOSAL : goal.returns-then-kind_number-eq-PROPOSAL
returns-then-kind_number-eq-PROPOSAL c =
    let a = c.args in
    judged_proposal _ a.event a.legs.now (sym c.kind_number.ensures.0 ∙ c.if-kind_number-eq-PROPOSAL.true) c.leg_count.ensures (c.is_proposal_sound.ensures _)

pub returns : goal.returns
returns c =
    let kind-number = c.kind_number in
    let a = c.args in judged_legless _ a.event a.legs.now (λ e. c.if-kind_number-eq-PROPOSAL.false (kind-number.ensures.0 ∙ e)) c.is_legless_sound.ensures
