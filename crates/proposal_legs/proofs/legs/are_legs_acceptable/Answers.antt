use Rattle.arith.proofs.Tests.{asked_true, asked_false}
use Rattle.rules.specs.Ledger.{members, with_head, with_prices, with_book}
use Rattle.proposal_check.proofs.SoundLegs.{legs_fit}
use Rattle.proposal_legs.proofs.Judged.{all_sound, unsound, judged}
use Rattle.proposal_legs.proofs.legs.are_legs_acceptable.Goals as goal

pub returns-then-not-is_proposal_sound : goal.returns-then-not-is_proposal_sound
returns-then-not-is_proposal_sound c =
    let a = c.args in
    λ t.
    let u = with_head a.head.now (with_prices a.prices.now (with_book a.book.now t)) in
    unsound u _ a.legs.now (asked_false (all_sound (members u) a.legs.now (c.is_proposal_sound.ensures (members u))) c.if-not-is_proposal_sound.true)

-- Past the first test the legs are those of a sound proposal, in a ledger of however many members.
pub are_legs_acceptable-requires : goal.are_legs_acceptable-requires
are_legs_acceptable-requires c =
    let legs = c.args.legs.now in
    record { head_fit = c.requires; legs_fit = legs_fit 0 _ legs (asked_true (all_sound 0 legs (c.is_proposal_sound.ensures 0)) c.if-not-is_proposal_sound.false) }

pub returns : goal.returns
returns c =
    let a = c.args in
    λ t.
    let u = with_head a.head.now (with_prices a.prices.now (with_book a.book.now t)) in
    judged u _ a.legs.now (asked_true (all_sound (members u) a.legs.now (c.is_proposal_sound.ensures (members u))) c.if-not-is_proposal_sound.false) (c.are_legs_acceptable.ensures t)
