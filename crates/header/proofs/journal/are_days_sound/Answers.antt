use mathlib.Core.Path.{refl}
use Rattle.calendar.proofs.FirstYears.{first_year_holds, year_unsound, day_in_span}
use Rattle.rules.specs.Days.{Calendar}
use Rattle.arith.proofs.Tests.{asked_true, asked_false}
use Rattle.header.proofs.journal.are_days_sound.Goals as goal

pub returns-then-not-is_first_year_sound : goal.returns-then-not-is_first_year_sound
returns-then-not-is_first_year_sound c =
    let a = c.args in
    let k : Calendar = record { first_year = a.first_year; holidays = a.holidays.now } in
    rw (year_unsound k (asked_false c.is_first_year_sound.ensures c.if-not-is_first_year_sound.true)) refl

pub span_of-span-requires : goal.span_of-span-requires
span_of-span-requires c = first_year_holds _ (asked_true c.is_first_year_sound.ensures c.if-not-is_first_year_sound.false)

pub is_calendar_sound-requires : goal.is_calendar_sound-requires
is_calendar_sound-requires c = (first_year_holds _ (asked_true c.is_first_year_sound.ensures c.if-not-is_first_year_sound.false), c.span_of-span.ensures _)

pub returns : goal.returns
returns c =
    let a = c.args in
    rw (c.is_calendar_sound.ensures, day_in_span _ _ _ _ (c.span_of-span.ensures _) (c.is_day_sound.ensures a.first_year)) refl
