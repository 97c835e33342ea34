-- A listing stops where the journal program stops.
use Rattle.std.specs.Prelude.{ℕ, false, List, ◌≡◌}
use Rattle.rules.specs.Ledger.{Tables, ledger_short, lines_short}
use Rattle.journal.specs.declared.stage.Stage.{Stage}
use Rattle.journal.specs.declared.stage.Stage.TheVariants.{ReadToEnd, RecordUnsound, HeaderUnsound}
use Rattle.journal.specs.Stages.{journal_end_on}
use Rattle.streams.specs.declared.ending.Ending.{Ending}
use Rattle.streams.specs.declared.ending.Ending.TheVariants.{ReadToEnd as EndedRead, HeaderUnsound as EndedHeader, RecordUnsound as EndedRecord}
use Rattle.listing_chunks.specs.Listings.{listing_ending}

-- The journal's last stage, and how its listing ends.
pub data SameEnd : Stage → Ending → Type 0 where
  read_to_end : SameEnd ReadToEnd EndedRead
  header_unsound : SameEnd HeaderUnsound EndedHeader
  record_unsound : SameEnd RecordUnsound EndedRecord

-- On tables of sufficient length, whatever they hold.
abbrev pub StopsWithTheJournal : Type 0
StopsWithTheJournal = (t : Tables) (s : List ℕ) → ledger_short t ≡ false → lines_short t ≡ false → SameEnd (journal_end_on t s).stage (listing_ending s)
