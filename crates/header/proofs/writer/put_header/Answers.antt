use mathlib.Core.List.{flat_map}
use mathlib.Core.Path.{◌≡◌, refl}
use native.Mathlib.Omega.{arith}
use lib.ListN.{take}
use lib.Seq.{length-take-le}
use Rattle.big_endian.specs.Width.{two, four}
use Rattle.rules.specs.Fields.{number_bytes}
use Rattle.rules.specs.Header.{u16_bytes, u32_bytes, header_bytes}
use Rattle.header.specs.Journal.{firsts, header_from}
use Rattle.header.proofs.Headers.{length_firsts, take_firsts, length_holidays, members_fit, holidays_fit}
use Rattle.header.proofs.Trips.{holds}
use Rattle.arith.proofs.Beside.{over_then}
use Rattle.header.proofs.writer.put_header.Goals as goal

pub shared_ref_as_front-holidays : goal.shared_ref_as_front-holidays
shared_ref_as_front-holidays c = holidays_fit c.args.h c.requires.sound

pub shared_ref_as_front-limits : goal.shared_ref_as_front-limits
shared_ref_as_front-limits c = members_fit c.args.h c.requires.sound

pub put_numbers-requires-clause-room : goal.put_numbers-requires-clause-room
put_numbers-requires-clause-room c =
    let most = holidays_fit c.args.h c.requires.sound in
    (two, omega (arith, length-take-le c.args.h.holiday_count c.args.h.holidays (omega arith)))

pub put_numbers-requires-clause-fit : goal.put_numbers-requires-clause-fit
put_numbers-requires-clause-fit c =
    let most = holidays_fit c.args.h c.requires.sound in
    rw (take_firsts c.args.h.holiday_count c.args.h.holidays (omega arith)) (holds (header_from c.args.h) c.requires.sound).days

pub put_numbers-requires-2-clause-room : goal.put_numbers-requires-2-clause-room
put_numbers-requires-2-clause-room c =
    let h = c.args.h in
    let few = members_fit c.args.h c.requires.sound in
    let most = holidays_fit c.args.h c.requires.sound in
    (four, omega (arith, length-take-le h.holiday_count h.holidays (omega arith), length-take-le h.members h.limits (omega arith)))

pub put_numbers-requires-2-clause-fit : goal.put_numbers-requires-2-clause-fit
put_numbers-requires-2-clause-fit c =
    let few = members_fit c.args.h c.requires.sound in
    rw (take_firsts c.args.h.members c.args.h.limits (omega arith)) (holds (header_from c.args.h) c.requires.sound).limits

pub returns : goal.returns
unfolding header_bytes u16_bytes
returns c =
    let h = c.args.h in
    let few = members_fit c.args.h c.requires.sound in
    let most = holidays_fit c.args.h c.requires.sound in
    let days : take h.holiday_count h.holidays ≡ firsts h.holiday_count h.holidays = take_firsts h.holiday_count h.holidays (omega arith) in
    let limits : take h.members h.limits ≡ firsts h.members h.limits = take_firsts h.members h.limits (omega arith) in
    let by_two : flat_map (number_bytes 2) (firsts h.holiday_count h.holidays) ≡ flat_map u16_bytes (firsts h.holiday_count h.holidays) = unfold number_bytes in refl in
    let by_four : flat_map (number_bytes 4) (firsts h.members h.limits) ≡ flat_map u32_bytes (firsts h.members h.limits) = unfold number_bytes in refl in
    rw (length_firsts c.args.h.holiday_count)
    (over_then _ _ _ _ _ _ (over_then _ _ _ _ _ _
    (over_then _ _ _ _ _ _ (over_then _ _ _ _ _ _
    (over_then _ _ _ _ _ _ (over_then _ _ _ _ _ _ c.put_letters.ensures c.put_u16.ensures refl (omega arith)) c.put_u16-2.ensures refl (omega arith)) c.put_u8.ensures refl
    (omega arith)) c.put_u8-2.ensures refl (omega arith))
    (rw (days, by_two) at c.put_numbers.ensures) refl (omega arith))
    (rw (limits, by_four) at c.put_numbers-2.ensures) (omega (arith, length_holidays c.args.h)) (omega arith))
