-- A journal run stage by stage: what is still to be printed, and what one call promises.
use Rattle.std.specs.Prelude.{ℕ, zero, suc, ◌+◌, ◌-◌, ◌≤◌, ◌<◌, Bool, true, false, cond, not, ◌&&◌, Option, Some, None, List, [], ◌++◌, ◌≡◌, eqb, ltb, length, take, drop}
use Rattle.rules.specs.declared.event.Front.{Front}
use Rattle.rules.specs.declared.event.Front.TheVariants.{Whole, Cut, UnknownKind}
use Rattle.rules.specs.Answers.{Outcome}
use Rattle.rules.specs.Header.{header_length}
use Rattle.rules.specs.Accounts.{is_accepted}
use Rattle.rules.specs.Journal.{end_text, answer_text, stops, next_length, records_text, journal_text_on}
use Rattle.rules.specs.Ledger.{Tables, with_head}
use Rattle.rules.specs.Records.{front_of}
use Rattle.rules.specs.Refusals.{apply_spec, make_spec}
use Rattle.text.specs.Wrote.{Wrote}
use Rattle.printing.specs.Room.{line_room}
use Rattle.journal.specs.Room.{record_room, room_wanted}
use Rattle.journal.specs.declared.record.Printed.{Printed}
use Rattle.journal.specs.declared.stage.Progress.{Progress}
use Rattle.journal.specs.declared.stage.Stage.{Stage}
use Rattle.journal.specs.declared.stage.Stage.TheVariants.{Header, Records, Read, Stopped, ReadToEnd, RecordUnsound, HeaderUnsound}
use Rattle.journal.specs.declared.stage.Wants.{Wants}
use Rattle.journal.specs.declared.stage.Wants.TheVariants.{Nothing, Bytes, Room}

-- ---- one record
-- What the call that runs one record did: the tables are those of the outcome, its text is printed.
pub record RanOne (number place : ℕ) (o : Outcome Tables) (entry exit : List ℕ) (after : Tables) (r : Printed) : Type 0 where
  pub outcome : after ≡ o.after
  pub wrote : Wrote place (answer_text number o) entry exit r.end
  pub room : r.end ≤ place + record_room
  pub accepted : r.is_accepted ≡ is_accepted o.answer
  pub unsound : r.is_unsound ≡ stops o.answer

-- How many bytes the next record has: none where no byte is left, or it is cut and more bytes may come.
unfoldable pub length_by_now : Bool → ℕ → Front → Option ℕ
length_by_now last left (Whole n) = Some n
length_by_now last left Cut = cond (last && not (eqb left 0)) (Some left) None
length_by_now last left UnknownKind = Some 1

abbrev pub length_now : Bool → List ℕ → Option ℕ
length_now last s = length_by_now last (length s) (front_of s)

-- How many bytes the next record has: none where it cannot be run now, since the journal was stopped or the output may lack room.
unfoldable pub ready_length : Bool → Bool → ℕ → List ℕ → Option ℕ
ready_length last stopped room s = cond stopped None (cond (ltb room room_wanted) None (length_now last s))

-- ---- where running some records ended
unfoldable pub stage_after : ℕ → ℕ → Bool → Bool → ℕ → Stage
stage_after n k stopped read room = cond stopped (Stopped n k) (cond (ltb room room_wanted) (Records n k) (cond read (Read n k) (Records n k)))

unfoldable pub wants_after : Bool → Bool → ℕ → Wants
wants_after stopped read room = cond stopped Nothing (cond (ltb room room_wanted) Room (cond read Nothing Bytes))

-- ---- what is still to be printed, of these tables and bytes
unfoldable pub remaining : Stage → Tables → List ℕ → List ℕ
remaining Header t s = journal_text_on t s
remaining (Records n k) t s = records_text n k t s
remaining (Read n k) t s = end_text n k t
remaining (Stopped n k) t s = end_text n k t
remaining ReadToEnd t s = []
remaining RecordUnsound t s = []
remaining HeaderUnsound t s = []

-- ---- how a journal ends: its last stage, and the tables then
pub record JournalEnd : Type 0 where
  pub stage : Stage
  pub tables : Tables

-- A record that is number 3 is the last. Else the journal is read to its end.
unfoldable pub records_end_within : ℕ → Tables → List ℕ → JournalEnd
records_end_within zero t s = record { stage = ReadToEnd; tables = t }
records_end_within (suc fuel) t s =
    let n = next_length s in
    let o = apply_spec t (take n s) in
    cond (eqb (length s) 0) (record { stage = ReadToEnd; tables = t })
    (cond (stops o.answer) (record { stage = RecordUnsound; tables = o.after }) (records_end_within fuel o.after (drop n s)))

unfoldable pub records_end : Tables → List ℕ → JournalEnd
records_end t s = records_end_within (length s) t s

unfoldable pub journal_end_on : Tables → List ℕ → JournalEnd
journal_end_on t s =
    let o = make_spec t s in
    cond (is_accepted o.answer) (records_end o.after (drop (header_length s) s)) (record { stage = HeaderUnsound; tables = o.after })

-- From a stage on, of these tables and bytes.
unfoldable pub end_from : Stage → Tables → List ℕ → JournalEnd
end_from Header t s = journal_end_on t s
end_from (Records n k) t s = records_end t s
end_from (Read n k) t s = record { stage = ReadToEnd; tables = t }
end_from (Stopped n k) t s = record { stage = RecordUnsound; tables = t }
end_from ReadToEnd t s = record { stage = ReadToEnd; tables = t }
end_from RecordUnsound t s = record { stage = RecordUnsound; tables = t }
end_from HeaderUnsound t s = record { stage = HeaderUnsound; tables = t }

-- ---- the tables, and the bytes still to be run on them
pub record Rest : Type 0 where
  pub tables : Tables
  pub bytes : List ℕ

-- After the header. One that is turned back is not passed.
unfoldable pub after_header : Rest → Rest
after_header x =
    let o = make_spec x.tables x.bytes in
    record { tables = o.after; bytes = cond (is_accepted o.answer) (drop (header_length x.bytes) x.bytes) x.bytes }

unfoldable pub after_record : Rest → Rest
after_record x =
    let n = next_length x.bytes in
    record { tables = (apply_spec x.tables (take n x.bytes)).after; bytes = drop n x.bytes }

unfoldable pub after_records : ℕ → Rest → Rest
after_records zero x = x
after_records (suc n) x = after_record (after_records n x)

-- How many records were counted at a stage that counts them.
unfoldable pub counted_at : Stage → ℕ
counted_at Header = 0
counted_at (Records n k) = n
counted_at (Read n k) = n
counted_at (Stopped n k) = n
counted_at ReadToEnd = 0
counted_at RecordUnsound = 0
counted_at HeaderUnsound = 0

-- From one stage to another: the header is run, unless it is still to be read; or the records between the two counts; else nothing.
unfoldable pub after_stage : Stage → Stage → Rest → Rest
after_stage Header Header x = x
after_stage Header (Records n k) x = after_header x
after_stage Header (Read n k) x = after_header x
after_stage Header (Stopped n k) x = after_header x
after_stage Header ReadToEnd x = after_header x
after_stage Header RecordUnsound x = after_header x
after_stage Header HeaderUnsound x = after_header x
after_stage (Records n k) next x = after_records (counted_at next - n) x
after_stage (Read n k) next x = x
after_stage (Stopped n k) next x = x
after_stage ReadToEnd next x = x
after_stage RecordUnsound next x = x
after_stage HeaderUnsound next x = x

-- The rank of a stage: one that follows another has a higher rank.
abbrev pub rank : Stage → ℕ
rank Header = 0
rank (Records n k) = 1
rank (Read n k) = 2
rank (Stopped n k) = 2
rank ReadToEnd = 3
rank RecordUnsound = 3
rank HeaderUnsound = 3

-- No more records are accepted than counted, and no more counted than this.
abbrev pub Counts : Stage → ℕ → Type 0
Counts Header most = Unit {0}
Counts (Records n k) most = (k ≤ n) × (n ≤ most)
Counts (Read n k) most = (k ≤ n) × (n ≤ most)
Counts (Stopped n k) most = (k ≤ n) × (n ≤ most)
Counts ReadToEnd most = Unit {0}
Counts RecordUnsound most = Unit {0}
Counts HeaderUnsound most = Unit {0}

-- Less than a whole header or record is left.
abbrev pub Short : Stage → List ℕ → Type 0
Short Header s = length s < header_length s
Short (Records n k) s = front_of s ≡ Cut
Short (Read n k) s = ⊥
Short (Stopped n k) s = ⊥
Short ReadToEnd s = ⊥
Short RecordUnsound s = ⊥
Short HeaderUnsound s = ⊥

-- What a call may ask for: bytes, if less than a header or record is left and more can come; room, if a record may need it; else
-- nothing, and the next stage is reached.
abbrev pub Asks : Wants → Stage → Stage → List ℕ → Bool → ℕ → Type 0
Asks Nothing before after left last room = rank before < 3 → rank before < rank after
Asks Bytes before after left last room = (last ≡ false) × Short after left
Asks Room before after left last room = room < room_wanted

-- E was printed, and the journal is at its last stage.
pub record EndPrinted (stage : Stage) (n k : ℕ) (head : List ℕ) (filled : ℕ) (entry exit : List ℕ) (r : Progress) : Type 0 where
  pub wrote : (t : Tables) → Wrote filled (end_text n k (with_head head t)) entry exit r.end
  pub room : r.end ≤ filled + line_room
  pub stands : r ≡ record { used = 0; end = r.end; stage = stage; wants = Nothing }

-- What a call did on these bytes, the last of the journal or not, whatever bytes come after them: a text was written behind
-- what was printed, and it, with what is still to be printed, is what was to be printed. The tables, and the bytes left, are those
-- after what was run, and the journal's end is the one that it had.
pub record Advanced (stage : Stage) (t : Tables) (bytes : List ℕ) (last : Bool) (filled : ℕ) (entry exit : List ℕ) (after : Tables) (r : Progress) : Type 0 where
  pub text : List ℕ
  pub wrote : Wrote filled text entry exit r.end
  pub inside : r.used ≤ length bytes
  pub within : r.end ≤ length entry
  pub counts : (most : ℕ) → Counts stage most → Counts r.stage (most + length bytes)
  pub asks : (room : ℕ) → r.end + room ≡ length entry → Asks r.wants stage r.stage (drop r.used bytes) last room
  pub rest : (more : List ℕ) → (last ≡ true → more ≡ []) → remaining stage t (bytes ++ more) ≡ text ++ remaining r.stage after (drop r.used (bytes ++ more))
  pub tables : (more : List ℕ) → (last ≡ true → more ≡ [])
      → record { tables = after; bytes = drop r.used (bytes ++ more) } ≡ after_stage stage r.stage (record { tables = t; bytes = bytes ++ more })
  pub ends : (more : List ℕ) → (last ≡ true → more ≡ []) → end_from stage t (bytes ++ more) ≡ end_from r.stage after (drop r.used (bytes ++ more))
