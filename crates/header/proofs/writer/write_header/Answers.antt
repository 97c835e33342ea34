use mathlib.Core.Path.{sym, ◌∙◌}
use native.Mathlib.Omega.{arith}
use Rattle.header.proofs.Headers.{length_header, members_fit, holidays_fit, write_header_unsound, write_header_short, write_header_whole}
use Rattle.arith.proofs.Tests.{asked_true, asked_false}
use Rattle.header.proofs.writer.write_header.Goals as goal

pub returns-then-not-is_header_sound : goal.returns-then-not-is_header_sound
returns-then-not-is_header_sound c = write_header_unsound _ _ (asked_false c.is_header_sound.ensures c.if-not-is_header_sound.true)

pub header_length-n-requires : goal.header_length-n-requires
header_length-n-requires c =
    let sound = asked_true c.is_header_sound.ensures c.if-not-is_header_sound.false in
    omega (arith, holidays_fit c.args.h sound, members_fit c.args.h sound)

pub returns-then-out-n : goal.returns-then-out-n
returns-then-out-n c =
    let sound = asked_true c.is_header_sound.ensures c.if-not-is_header_sound.false in
    write_header_short _ _ sound (omega (arith, length_header c.args.h))

pub put_header-requires : goal.put_header-requires
put_header-requires c = record { room = omega arith; sound = asked_true c.is_header_sound.ensures c.if-not-is_header_sound.false }

pub returns : goal.returns
returns c =
    let put-header = c.put_header in
    let test1 = c.if-not-is_header_sound in
    let size = c.header_length-n.ensures ∙ sym (length_header c.args.h) in
    write_header_whole _ _ (asked_true c.is_header_sound.ensures test1.false) _ _ size (omega (arith, length_header c.args.h)) put-header.ensures
