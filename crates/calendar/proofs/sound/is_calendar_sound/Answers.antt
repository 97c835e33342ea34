use borrow.Author.Tests.{le-leb, lt-leb}
use Rattle.rules.specs.Header.{calendar_sound}
use Rattle.calendar.proofs.sound.is_calendar_sound.Goals as goal

pub returns-then-holidays-gt-MOST_HOLIDAYS : goal.returns-then-holidays-gt-MOST_HOLIDAYS
unfolding calendar_sound
returns-then-holidays-gt-MOST_HOLIDAYS c = search (le-leb, lt-leb)

pub returns : goal.returns
unfolding calendar_sound
returns c = rw (c.are_rising.ensures, c.are_in.ensures _ c.requires.1) (search (le-leb, lt-leb))
