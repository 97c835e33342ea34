use mathlib.Core.Path.{◌≡◌, sym}
use native.Mathlib.Omega.{arith}
use lib.Dec.{leb}
use lib.ListN.{take}
use borrow.Author.Tests.{leb-true}
use Rattle.arith.proofs.Tests.{and_right}
use Rattle.rules.specs.Ranges.{most_members}
use Rattle.header.specs.Journal.{firsts, header_from}
use Rattle.header.proofs.Headers.{length_firsts, take_firsts, holidays_many, members_wrong, header_judged}
use Rattle.arith.proofs.Tests.{asked_true, asked_false}
use Rattle.header.proofs.journal.is_header_sound.Goals as goal

pub returns-then-h-gt-MOST_HOLIDAYS : goal.returns-then-h-gt-MOST_HOLIDAYS
returns-then-h-gt-MOST_HOLIDAYS c =
    let h = c.args.h in
    sym (holidays_many (header_from h) (rw (length_firsts _ h.holidays) c.if-h-gt-MOST_HOLIDAYS.true))

pub returns-then-not-is_member_count_sound : goal.returns-then-not-is_member_count_sound
returns-then-not-is_member_count_sound c = sym (members_wrong (header_from c.args.h) (asked_false c.is_member_count_sound.ensures c.if-not-is_member_count_sound.true))

pub returns : goal.returns
returns c =
    let h = c.args.h in
    let members = asked_true c.is_member_count_sound.ensures c.if-not-is_member_count_sound.false in
    let few = leb-true h.members most_members (and_right (leb 1 h.members) (leb h.members most_members) members) in
    let days : take h.holiday_count h.holidays ≡ firsts h.holiday_count h.holidays = take_firsts h.holiday_count h.holidays (omega arith) in
    let limits : take h.members h.limits ≡ firsts h.members h.limits = take_firsts h.members h.limits (omega arith) in
    rw (c.are_days_sound.ensures, c.are_limits_sound.ensures, days, limits) (header_judged (header_from h) members (length_firsts _ _))
