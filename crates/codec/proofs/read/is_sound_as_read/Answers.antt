use mathlib.Core.Path.{sym, ap, ◌∙◌}
use Rattle.rules.specs.Records.{event_sound}
use Rattle.record_kinds.specs.Numbers.{leg_count}
use lib.ListN.{take}
use Rattle.codec.specs.Legs.{in_places, held_legs}
use Rattle.codec.proofs.PlacedLegs.{judged_proposal, judged_legless, places_judged}
use Rattle.codec.proofs.read.is_sound_as_read.Goals as goal

pub returns-then-kind_number-eq-PROPOSAL : goal.returns-then-kind_number-eq-PROPOSAL
returns-then-kind_number-eq-PROPOSAL c =
    let leg-count = c.leg_count in
    let test1 = c.if-kind_number-eq-PROPOSAL in
    let kind-number = c.kind_number in
    let a = c.args in
    let n = a.members in
    let legs = c.read_legs in
    judged_proposal n a.event legs.result (sym kind-number.ensures.0 ∙ test1.true) leg-count.ensures (c.is_proposal_sound.ensures n)
    ∙ (ap (λ l. event_sound n a.event (take (leg_count a.event) l)) legs.ensures ∙ places_judged n a.bytes.now a.event c.requires)

pub returns : goal.returns
returns c =
    let a = c.args in
    let s = a.bytes.now in
    judged_legless _ a.event (in_places (held_legs s)) (λ e. c.if-kind_number-eq-PROPOSAL.false (c.kind_number.ensures.0 ∙ e)) c.is_legless_sound.ensures
    ∙ places_judged _ s a.event c.requires
