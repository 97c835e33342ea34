use Rattle.std.proofs.Common.{◌≡◌, ◌+◌, ◌-◌, true, leb, get_or, take, drop, arith, le-leb}
use borrow.Author.Tests.{lt-leb}
use Rattle.arith.specs.Lists.{every, all_of, from}
use Rattle.rules.specs.Ranges.{last_second, most_accepted_submits, most_lots_run}
use Rattle.rules.specs.Days.{Calendar}
use Rattle.rules.specs.Header.{calendar_sound, members_sound, day_sound}
use Rattle.rules.specs.Refusals.{head_sound, member_sound}
use Rattle.rules.specs.Ledger.{with_head}
use Rattle.damage.proofs.Tests.{all_nine}
use Rattle.arith.proofs.Tests.{asked_true, asked_false}
use Rattle.calendar.proofs.FirstYears.{day_in_span}
use Rattle.damage.proofs.head.is_head_sound.Goals as goal

pub returns-then-count-gt-MOST_HOLIDAYS : goal.returns-then-count-gt-MOST_HOLIDAYS
unfolding head_sound all_of
returns-then-count-gt-MOST_HOLIDAYS c = λ t. rw (lt-leb _ _ c.if-count-gt-MOST_HOLIDAYS.true)

pub is_calendar_sound-requires : goal.is_calendar_sound-requires
is_calendar_sound-requires c = (c.requires.1, c.requires.2 _)

pub returns-then-not-is_calendar_sound : goal.returns-then-not-is_calendar_sound
unfolding head_sound all_of
returns-then-not-is_calendar_sound c =
    let h = c.args.head.now in
    let cut : 8 + get_or h 2 0 - 8 ≡ get_or h 2 0 = omega arith in
    λ t. rw (le-leb _ _ c.if-count-gt-MOST_HOLIDAYS.false, asked_false (rw cut at c.is_calendar_sound.ensures) c.if-not-is_calendar_sound.true)

pub returns-then-members-lt1 : goal.returns-then-members-lt1
unfolding head_sound all_of
returns-then-members-lt1 c =
    let args = c.args in
    let h = args.head.now in
    let cut : 8 + get_or h 2 0 - 8 ≡ get_or h 2 0 = omega arith in
    λ t. rw (le-leb _ _ c.if-count-gt-MOST_HOLIDAYS.false, asked_true (rw cut at c.is_calendar_sound.ensures) c.if-not-is_calendar_sound.false, lt-leb 1 (get_or h 1 0) c.if-members-lt1.true)

pub returns-then-members-gt-MOST_MEMBERS : goal.returns-then-members-gt-MOST_MEMBERS
unfolding head_sound all_of
returns-then-members-gt-MOST_MEMBERS c =
    let args = c.args in
    let h = args.head.now in
    let cut : 8 + get_or h 2 0 - 8 ≡ get_or h 2 0 = omega arith in
    λ t. rw (
      le-leb _ _ c.if-count-gt-MOST_HOLIDAYS.false,
      asked_true (rw cut at c.is_calendar_sound.ensures) c.if-not-is_calendar_sound.false,
      le-leb 1 (get_or h 1 0) c.if-members-lt1.false,
      lt-leb (get_or h 1 0) 32 c.if-members-gt-MOST_MEMBERS.true,
    )

pub returns : goal.returns
unfolding head_sound
returns c =
    let pre = c.requires in
    let args = c.args in
    let h = args.head.now in
    let k : Calendar = record { first_year = get_or h 0 0; holidays = take (get_or h 2 0) (drop 8 h) } in
    let cut : 8 + get_or h 2 0 - 8 ≡ get_or h 2 0 = omega arith in
    let calendar = asked_true (rw cut at c.is_calendar_sound.ensures) c.if-not-is_calendar_sound.false in
    let some : members_sound (get_or h 1 0) ≡ true = rw (le-leb 1 (get_or h 1 0) c.if-members-lt1.false, le-leb (get_or h 1 0) 32 c.if-members-gt-MOST_MEMBERS.false) in
    let day = day_in_span k _ _ _ (pre.2 _) (rw cut at (c.is_day_sound-day.ensures (get_or h 0 0))) in
    λ t. rw (day, c.are_members_sound.ensures t)
    (all_nine (leb (get_or h 2 0) 120) (calendar_sound k) (members_sound (get_or h 1 0)) (day_sound k (get_or h 3 0)) (leb (get_or h 4 0) last_second) (leb (get_or h 5 0) most_accepted_submits)
    (leb (get_or h 6 0) most_lots_run) (leb (get_or h 7 0) 256) (every (member_sound (with_head h t)) (from 0 (get_or h 1 0)))
    (le-leb _ _ c.if-count-gt-MOST_HOLIDAYS.false) calendar some)
