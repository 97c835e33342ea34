-- The turns of a run, its ending, and what it printed of the bytes that came.
use Rattle.std.specs.Prelude.{ℕ, ◌+◌, ◌<◌, Bool, true, false, List, [], ◌++◌, ◌≡◌, take, Result, Ok, Err}
use Rattle.rules.specs.Journal.{journal_text_on}
use Rattle.rules.specs.Ledger.{Tables}
use Rattle.journal.specs.declared.stage.Progress.{Progress}
use Rattle.journal.specs.declared.stage.Stage.{Stage}
use Rattle.journal.specs.declared.stage.Stage.TheVariants.{ReadToEnd, RecordUnsound, HeaderUnsound}
use Rattle.journal.specs.declared.stage.Wants.{Wants}
use Rattle.journal.specs.declared.stage.Wants.TheVariants.{Nothing, Bytes, Room}
use Rattle.journal.specs.Chunks.{Turns, start, call, read as read-turn}
use Rattle.journal.specs.Stages.{Advanced, Short, rank, journal_end_on}
use Rattle.streams.specs.declared.ending.Ending.{Ending}
use Rattle.streams.specs.declared.ending.Ending.TheVariants.{ReadToEnd as EndedRead, HeaderUnsound as EndedHeader, RecordUnsound as EndedRecord, ReadFailed, WriteFailed}
use Rattle.streams.specs.declared.window.Window.{Window}
use Rattle.streams.specs.Windows.{held, ReadMore, WroteOut}
use Rattle.journal_program.specs.declared.shell.Place.{Place}
use Rattle.journal_program.specs.Places.{most_turns}

-- ---- one turn
-- Where what is printed is handed over to be written: at a last stage, before a read, and where room is wanted.
abbrev pub HandsOver : Wants → Stage → Type 0
HandsOver Nothing stage = rank stage ≡ 3
HandsOver Bytes stage = Unit {0}
HandsOver Room stage = Unit {0}

-- How a run ends after a call that wanted this: at a last stage with its ending, if nothing was wanted; where a read failed, if bytes
-- were; and where a write failed.
pub data Ends : Wants → Stage → Ending → Type 0 where
  read_to_end : Ends Nothing ReadToEnd EndedRead
  header_unsound : Ends Nothing HeaderUnsound EndedHeader
  record_unsound : Ends Nothing RecordUnsound EndedRecord
  not_read : {stage : Stage} → Ends Bytes stage ReadFailed
  not_written : {wants : Wants} {stage : Stage} → HandsOver wants stage → Ends wants stage WriteFailed

-- How a run goes on after it: if nothing was wanted, the window stays, at a stage that is not a last one; if bytes were, what is printed
-- was handed over and more bytes were read, where more may come; if room was, what is printed was handed over.
pub data Moves (stage : Stage) (w r : Window) (input exit : List ℕ) : Wants → Type 0 where
  stays : rank stage < 3 → r ≡ w → exit ≡ input → Moves stage w r input exit Nothing
  read : w.is_last ≡ false → ReadMore input exit w r → Moves stage w r input exit Bytes
  wrote : WroteOut w r → exit ≡ input → Moves stage w r input exit Room

-- What follows a place where this is wanted.
abbrev pub Follows : Wants → Place → List ℕ → List ℕ → Result Place Ending → Type 0
Follows wants p input exit (Ok q) = (q.stage ≡ p.stage) × Moves p.stage p.window q.window input exit wants
Follows wants p input exit (Err ending) = Ends wants p.stage ending

-- The place after a call of `advance`.
abbrev pub place_after : Place → Progress → Place
place_after p done =
    record {
      turns = p.turns + 1;
      window =
          record {
            from = p.window.from + done.used;
            end = p.window.end;
            is_last = p.window.is_last;
            filled = done.end;
            progress = p.window.progress;
          };
      stage = done.stage;
    }

-- The bytes that the window holds are run as far as they can be, then what this wants is done.
pub record Turned (p : Place) (input output : List ℕ) (t : Tables) (input' output' : List ℕ) (t' : Tables) (next : Result Place Ending) : Type 0 where
  pub done : Progress
  pub ran : Advanced p.stage t (held p.window input) p.window.is_last p.window.filled output output' t' done
  pub follows : Follows done.wants (place_after p done) input input' next

-- ---- all turns
-- Each turn calls `advance` once.
unfoldable pub calls : {t₀ t : Tables} {last : Bool} {came printed left : List ℕ} {stage : Stage} → Turns t₀ last came printed stage t left → ℕ
calls start = 0
calls (read-turn more last x) = calls x
calls (call x a) = calls x + 1

-- What was printed by so many turns is what was handed over to be written, and what waits in the output.
pub record Reached (t₀ t : Tables) (output : List ℕ) (count : ℕ) (last : Bool) (stage : Stage) (filled : ℕ) (left : List ℕ) : Type 0 where
  pub came : List ℕ
  pub written : List ℕ
  pub turns : Turns t₀ last came (written ++ take filled output) stage t left
  pub counted : calls turns ≡ count

-- They end as the last of them does, and bytes are wanted only where more can come and less than a header or record is left; or with a
-- read that is told to have failed, after the most turns.
pub data TurnsEnd (count : ℕ) (last : Bool) (stage : Stage) (left : List ℕ) : Ending → Type 0 where
  with_last : {wants : Wants} {ending : Ending} → (wants ≡ Bytes → (last ≡ false) × Short stage left) → Ends wants stage ending
      → TurnsEnd count last stage left ending
  too_many : count ≡ most_turns → TurnsEnd count last stage left ReadFailed

pub record RanTurns (t₀ t : Tables) (output : List ℕ) (ending : Ending) : Type 0 where
  pub count : ℕ
  pub last : Bool
  pub stage : Stage
  pub filled : ℕ
  pub left : List ℕ
  pub reached : Reached t₀ t output count last stage filled left
  pub ends : TurnsEnd count last stage left ending

-- ---- the run
-- The text is the journal's, which ends so.
abbrev pub WholeText : Tables → Stage → List ℕ → List ℕ → Type 0
WholeText t stage s printed = (journal_text_on t s ≡ printed) × ((journal_end_on t s).stage ≡ stage)

-- The journal's text begins with it.
abbrev pub FirstText : Tables → List ℕ → List ℕ → Type 0
FirstText t s printed = ((behind : List ℕ) × (journal_text_on t s ≡ printed ++ behind))

-- What a run with this ending handed over to be written.
abbrev pub prints_as : Tables → Ending → List ℕ → List ℕ → Type 0
prints_as t EndedRead s printed = WholeText t ReadToEnd s printed
prints_as t EndedHeader s printed = WholeText t HeaderUnsound s printed
prints_as t EndedRecord s printed = WholeText t RecordUnsound s printed
prints_as t ReadFailed s printed = FirstText t s printed
prints_as t WriteFailed s printed = FirstText t s printed

-- A journal was run on these tables: some bytes came, the last or not, and this was printed, whatever comes behind them. No contract
-- of a read says which bytes came, so any of the five endings has such bytes: `Turned` and `RanTurns` tie the ending to them.
pub record JournalRan (t : Tables) (ending : Ending) : Type 0 where
  pub came : List ℕ
  pub last : Bool
  pub printed : List ℕ
  pub prints : (more : List ℕ) → (last ≡ true → more ≡ []) → prints_as t ending (came ++ more) printed
