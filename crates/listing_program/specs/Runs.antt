-- The turns of a listing, and how it ends.
use Rattle.std.specs.Prelude.{ℕ, ◌+◌, Bool, true, false, List, ◌≡◌, take, Result, Ok, Err}
use Rattle.rules.specs.Header.{header_of}
use Rattle.text.specs.Wrote.{Wrote}
use Rattle.listing.specs.declared.pieces.Piece.TheVariants.{Record, More, End}
use Rattle.listing.specs.Pieces.{piece_of}
use Rattle.listing_words.specs.Fields.{is_none, fault_of, header_fault}
use Rattle.listing_words.specs.Words.{record_line}
use Rattle.streams.specs.declared.ending.Ending.{Ending}
use Rattle.streams.specs.declared.ending.Ending.TheVariants.{ReadToEnd, HeaderUnsound, RecordUnsound, ReadFailed, WriteFailed}
use Rattle.streams.specs.declared.window.Window.{Window}
use Rattle.streams.specs.Windows.{held, failed, ReadMore, WroteOut, finished}
use Rattle.listing_program.specs.declared.shell.Ledger.{Ledger}
use Rattle.listing_program.specs.declared.shell.Place.{Place}

-- With these bytes left, the last or not, in a ledger of n members: no record is left, or a field of the next is at fault, or a write
-- or a read failed.
pub data RecordsEnd (n : ℕ) (last : Bool) (left : List ℕ) : Ending → Type 0 where
  read_to_end : piece_of last left ≡ End → RecordsEnd n last left ReadToEnd
  record_unsound : (m : ℕ) → piece_of last left ≡ Record m → is_none (fault_of n (take m left)) ≡ false → RecordsEnd n last left RecordUnsound
  not_written : RecordsEnd n last left WriteFailed
  not_read : RecordsEnd n last left ReadFailed

-- ---- one turn
-- The place behind the line of a record of so many bytes.
abbrev pub place_listed : Place → ℕ → ℕ → Place
place_listed p m filled =
    record {
      turns = p.turns + 1;
      window =
          record { from = p.window.from + m; end = p.window.end; is_last = p.window.is_last; filled = filled; progress = p.window.progress };
      records = p.records + 1;
      base = p.base + m;
    }

-- The line of a record of which no field is at fault stands behind what was printed.
pub record LineListed (l : Ledger) (p : Place) (m : ℕ) (bytes output after : List ℕ) (q : Place) : Type 0 where
  pub sound : is_none (fault_of l.members bytes) ≡ true
  pub wrote : Wrote p.window.filled (record_line l.members l.first_year (p.records + 1) p.base bytes) output after q.window.filled
  pub place : q ≡ place_listed p m q.window.filled

-- So many records and bytes came before what the place holds.
pub record Counted (records base : ℕ) (q : Place) : Type 0 where
  pub records_same : q.records ≡ records
  pub base_same : q.base ≡ base

-- A turn that goes on lists a record, or hands over what is printed, or does this and reads, where less than a record is left.
pub data Goes (l : Ledger) (p q : Place) (input exit output after : List ℕ) : Type 0 where
  listed : (m : ℕ) → piece_of p.window.is_last (held p.window input) ≡ Record m → LineListed l p m (take m (held p.window input)) output after q
      → exit ≡ input → Goes l p q input exit output after
  wrote : WroteOut p.window q.window → Counted p.records p.base q → exit ≡ input → after ≡ output → Goes l p q input exit output after
  read : piece_of p.window.is_last (held p.window input) ≡ More → ReadMore input exit p.window q.window → Counted p.records p.base q → after ≡ output
      → Goes l p q input exit output after

abbrev pub line_listed : Ledger → Place → ℕ → List ℕ → List ℕ → List ℕ → Result Place Ending → Type 0
line_listed l p m bytes output after (Ok q) = LineListed l p m bytes output after q
line_listed l p m bytes output after (Err ending) = (is_none (fault_of l.members bytes) ≡ false) × finished RecordUnsound ending

-- From a window, with so many records and bytes before it.
abbrev pub written_on : Window → ℕ → ℕ → Result Place Ending → Type 0
written_on w records base (Ok q) = WroteOut w q.window × Counted records base q
written_on w records base (Err ending) = failed ending

abbrev pub read_on : Window → ℕ → ℕ → List ℕ → List ℕ → Result Place Ending → Type 0
read_on w records base input exit (Ok q) = ReadMore input exit w q.window × Counted records base q
read_on w records base input exit (Err ending) = failed ending

abbrev pub turned : Ledger → Place → List ℕ → List ℕ → List ℕ → List ℕ → Result Place Ending → Type 0
turned l p input exit output after (Ok q) = Goes l p q input exit output after
turned l p input exit output after (Err ending) = RecordsEnd l.members p.window.is_last (held p.window input) ending

-- ---- the whole
abbrev pub header_ends : Result Window Ending → Type 0
header_ends (Ok w) = Unit {0}
header_ends (Err ending) = failed ending

-- A listing of these bytes, and what came behind them: a field of the header is at fault, or the records end so with some bytes left.
pub data ListingEnds (s : List ℕ) : Ending → Type 0 where
  header_unsound : is_none (header_fault s) ≡ false → ListingEnds s HeaderUnsound
  records : {ending : Ending} (last : Bool) (left : List ℕ) → is_none (header_fault s) ≡ true → RecordsEnd (header_of s).members last left ending → ListingEnds s ending
  listing_not_written : ListingEnds s WriteFailed
  listing_not_read : ListingEnds s ReadFailed
