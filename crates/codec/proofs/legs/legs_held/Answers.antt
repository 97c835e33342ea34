use mathlib.Core.Path.{sym, ◌∙◌}
use Rattle.rules.specs.Records.{record_length}
use Rattle.codec.proofs.PlacedLegs.{held_other, held_many, held_uneven, held_whole}
use Rattle.codec.proofs.legs.legs_held.Goals as goal

pub returns-then-u8_or_zero-ne-PROPOSAL : goal.returns-then-u8_or_zero-ne-PROPOSAL
returns-then-u8_or_zero-ne-PROPOSAL c = held_other _ (λ e. c.if-u8_or_zero-ne-PROPOSAL.true (c.u8_or_zero.ensures.0 ∙ e))

pub returns-then-count-gt-MOST_LEGS : goal.returns-then-count-gt-MOST_LEGS
returns-then-count-gt-MOST_LEGS c = held_many _ (rw c.u8_or_zero-count.ensures.0 at c.if-count-gt-MOST_LEGS.true)

pub returns-then-bytes-record_length : goal.returns-then-bytes-record_length
unfolding record_length
returns-then-bytes-record_length c = held_uneven _ (λ e. c.if-bytes-record_length.true (e ∙ sym (rw c.u8_or_zero-count.ensures.0 at c.record_length.ensures)))

pub returns : goal.returns
unfolding record_length
returns c =
    let test2 = c.if-count-gt-MOST_LEGS in
    let u8-or-zero2 = c.u8_or_zero-count in
    let test1 = c.if-u8_or_zero-ne-PROPOSAL in
    let u8-or-zero = c.u8_or_zero in
    let count = u8-or-zero2.ensures.0 in
    rw count (held_whole _ (sym u8-or-zero.ensures.0 ∙ test1.false) (rw count at test2.false) (c.if-bytes-record_length.false ∙ rw count at c.record_length.ensures))
