use mathlib.Core.Path.{sym, ◌∙◌}
use native.Mathlib.Omega.{arith}
use Rattle.arith.proofs.Tests.{asked_true, asked_false}
use Rattle.record_kinds.specs.Numbers.{leg_count}
use lib.ListN.{take, length-take}
use Rattle.codec.proofs.Written.{length_record, sound_event, some_bytes, record_put, write_few, write_unsound, write_short, write_whole}
use Rattle.codec.proofs.write.write_record.Goals as goal

pub returns-then-not-is_member_count_sound : goal.returns-then-not-is_member_count_sound
returns-then-not-is_member_count_sound c = write_few _ _ _ _ (asked_false c.is_member_count_sound.ensures c.if-not-is_member_count_sound.true)

pub returns-then-not-is_event_sound : goal.returns-then-not-is_event_sound
returns-then-not-is_event_sound c =
    let few = asked_true c.is_member_count_sound.ensures c.if-not-is_member_count_sound.false in
    write_unsound _ _ _ _ few (asked_false c.is_event_sound.ensures c.if-not-is_event_sound.true)

pub record_length-n-requires : goal.record_length-n-requires
record_length-n-requires c =
    let few = asked_true c.is_member_count_sound.ensures c.if-not-is_member_count_sound.false in
    let known = sound_event _ few _ _ (asked_true c.is_event_sound.ensures c.if-not-is_event_sound.false) in
    rw c.leg_count.ensures (omega (arith, known.few))

pub returns-then-out-n : goal.returns-then-out-n
returns-then-out-n c =
    let args = c.args in
    let is-member-count-sound = c.is_member_count_sound in
    let if1 = c.if-not-is_member_count_sound in
    let is-event-sound = c.is_event_sound in
    let if2 = c.if-not-is_event_sound in
    let kind-number = c.kind_number-kind in
    let leg-count = c.leg_count in
    let e = args.event in
    let few = asked_true is-member-count-sound.ensures if1.false in
    let sized = rw (kind-number.ensures.0, leg-count.ensures) at c.record_length-n.ensures in
    let known = sound_event _ few _ _ (asked_true is-event-sound.ensures if2.false) in
    let whole = length_record e (take (leg_count e) args.legs.now) known.beside in
    write_short _ _ _ _ few (asked_true is-event-sound.ensures if2.false) (omega (arith, sized, whole))

pub put_u8-requires : goal.put_u8-requires
put_u8-requires c =
    let sized = rw (c.kind_number-kind.ensures.0, c.leg_count.ensures) at c.record_length-n.ensures in
    let e = c.args.event in
    (omega (arith, sized, some_bytes e (leg_count e)), c.kind_number-kind.ensures.1)

pub put_fields-requires : goal.put_fields-requires
put_fields-requires c =
    let is-member-count-sound = c.is_member_count_sound in
    let if1 = c.if-not-is_member_count_sound in
    let is-event-sound = c.is_event_sound in
    let if2 = c.if-not-is_event_sound in
    let kind-number = c.kind_number-kind in
    let leg-count = c.leg_count in
    let record_length_holds = c.record_length-n in
    let few = asked_true is-member-count-sound.ensures if1.false in
    let sized = rw (kind-number.ensures.0, leg-count.ensures) at record_length_holds.ensures in
    let known = sound_event _ few _ _ (asked_true is-event-sound.ensures if2.false) in
    (omega (arith, sized), known.fits, known.few, omega (arith, known.beside, length-take (leg_count c.args.event) c.args.legs.now))

pub returns : goal.returns
returns c =
    let a = c.args in
    let is-member-count-sound = c.is_member_count_sound in
    let if1 = c.if-not-is_member_count_sound in
    let is-event-sound = c.is_event_sound in
    let if2 = c.if-not-is_event_sound in
    let kind-number = c.kind_number-kind in
    let leg-count = c.leg_count in
    let record_length_holds = c.record_length-n in
    let put-u8 = c.put_u8 in
    let put-fields = c.put_fields in
    let e = a.event in
    let few = asked_true is-member-count-sound.ensures if1.false in
    let sized = rw (kind-number.ensures.0, leg-count.ensures) at record_length_holds.ensures in
    let known = sound_event _ few _ _ (asked_true is-event-sound.ensures if2.false) in
    let whole = length_record e (take (leg_count e) a.legs.now) known.beside in
    let some = some_bytes e (leg_count e) in
    let put = record_put e _ _ _ _ kind-number.ensures.0 put-u8.ensures put-fields.ensures (omega (arith, sized)) in
    write_whole _ _ _ _ few (asked_true is-event-sound.ensures if2.false) _ _ (sized ∙ sym whole) (omega (arith, sized, whole)) put
