-- A journal's header with its lists in columns, and what reading one answers.
use Rattle.std.specs.Prelude.{ℕ, Bool, cond, ◌&&◌, List, map, length, get_or, Option, Some, None, Err, ◌≡◌, refl}
use Rattle.arith.specs.Lists.{from}
use Rattle.rules.specs.declared.refusal.Refusal.TheVariants.{HeaderUnsound}
use Rattle.rules.specs.Answers.{Reply, reply_of}
use Rattle.rules.specs.Ranges.{most_members, most_holidays}
use Rattle.rules.specs.Days.{Calendar}
use Rattle.rules.specs.Header.{Header, calendar_sound, day_sound, header_of, header_length, begins_with_header}
use Rattle.arith.specs.Columns.{padded}
use Rattle.header.specs.declared.journal.JournalHeader.{JournalHeader}
use Rattle.header.specs.declared.reader.ReadHeader.{ReadHeader}

-- The first n numbers of a column.
unfoldable pub firsts : ℕ → List ℕ → List ℕ
firsts n l = map (λ i. get_or l i 0) (from 0 n)

-- The calendar and the start day of a header.
abbrev pub days_sound : Calendar → ℕ → Bool
days_sound k d = calendar_sound k && day_sound k d

-- The header that the columns hold.
abbrev pub header_from : JournalHeader → Header
header_from h =
    record { first_year = h.first_year; start_day = h.start_day.0; members = h.members; holidays = firsts h.holiday_count h.holidays; limits = firsts h.members h.limits }

-- A header in columns, with 0 in the places past its lists.
abbrev pub header_columns : Header → JournalHeader
header_columns h =
    record {
      first_year = h.first_year;
      start_day = record { 0 = h.start_day };
      members = h.members;
      holiday_count = length h.holidays;
      holidays =
          padded most_holidays h.holidays;
      limits = padded most_members h.limits;
    }

-- What reading answers: the header and its length if the bytes begin with a sound one.
unfoldable pub header_reading : List ℕ → Option ReadHeader
header_reading s = cond (begins_with_header s) (Some (record { length = header_length s; header = header_columns (header_of s) })) None

-- The paper's number for what reading a header answers, with its length: bytes that begin with no sound header are 2.
abbrev pub reply_of_header_reading : Option ReadHeader → Reply
reply_of_header_reading (Some r) = record { number = 0; detail = r.length }
reply_of_header_reading None = reply_of (Err HeaderUnsound)

no_header_read : reply_of_header_reading None ≡ record { number = 2; detail = 0 }
no_header_read = refl
