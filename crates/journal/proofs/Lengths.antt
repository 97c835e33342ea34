-- No stage changes the length of a table. Assumes nothing.
use Prim.Native.Nat.{ℕ, zero, suc, ◌-◌}
use mathlib.Core.Bool.{Bool}
use mathlib.Core.List.{List, [], ◌++◌}
use mathlib.Core.Path.{◌≡◌, refl, sym, subst, ◌∙◌}
use lib.ListN.{take}
use Rattle.rules.specs.Journal.{next_length}
use Rattle.rules.specs.Ledger.{Tables}
use Rattle.accounts.specs.Lengths.{SameLengths}
use Rattle.accounts.proofs.SameLengths.{same_lengths}
use Rattle.accounts.proofs.LengthsStay.{lengths_stay, making_keeps_lengths}
use Rattle.journal.specs.declared.stage.Progress.{Progress}
use Rattle.journal.specs.declared.stage.Stage.{Stage}
use Rattle.journal.specs.declared.stage.Stage.TheVariants.{Header, Records, Read, Stopped, ReadToEnd, RecordUnsound, HeaderUnsound}
use Rattle.journal.specs.Stages.{Rest, after_header, after_record, after_records, counted_at, after_stage, Advanced}

lengths_then : {t u v : Tables} → SameLengths t u → SameLengths u v → SameLengths t v
lengths_then a b =
    record {
      head = b.head ∙ a.head;
      prices = b.prices ∙ a.prices;
      lots = b.lots ∙ a.lots;
      value = b.value ∙ a.value;
      book = b.book ∙ a.book;
      lines = b.lines ∙ a.lines;
    }

records_keep : (n : ℕ) (x : Rest) → SameLengths x.tables (after_records n x).tables
unfolding after_records after_record
records_keep zero x = same_lengths x.tables
records_keep (suc n) x =
    let y = after_records n x in lengths_then (records_keep n x) (lengths_stay y.tables (take (next_length y.bytes) y.bytes))

header_keeps : (x : Rest) → SameLengths x.tables (after_header x).tables
unfolding after_header
header_keeps x = making_keeps_lengths x.tables x.bytes

stage_keeps : (before after : Stage) (x : Rest) → SameLengths x.tables (after_stage before after x).tables
unfolding after_stage
stage_keeps Header Header x = same_lengths x.tables
stage_keeps Header (Records n k) x = header_keeps x
stage_keeps Header (Read n k) x = header_keeps x
stage_keeps Header (Stopped n k) x = header_keeps x
stage_keeps Header ReadToEnd x = header_keeps x
stage_keeps Header RecordUnsound x = header_keeps x
stage_keeps Header HeaderUnsound x = header_keeps x
stage_keeps (Records n k) after x = records_keep (counted_at after - n) x
stage_keeps (Read n k) after x = same_lengths x.tables
stage_keeps (Stopped n k) after x = same_lengths x.tables
stage_keeps ReadToEnd after x = same_lengths x.tables
stage_keeps RecordUnsound after x = same_lengths x.tables
stage_keeps HeaderUnsound after x = same_lengths x.tables

-- So of the tables after some records, and after a call more.
pub ran_keeps : (n : ℕ) (t u : Tables) (bytes left : List ℕ)
    → record { tables = u; bytes = left } ≡ after_records n (record { tables = t; bytes = bytes }) → SameLengths t u
ran_keeps n t u bytes left e = subst (λ (x : Rest). SameLengths t x.tables) (sym e) (records_keep n (record { tables = t; bytes = bytes }))

advanced_keeps : {stage : Stage} {t after : Tables} {bytes entry exit : List ℕ} {last : Bool} {filled : ℕ} {r : Progress}
    → Advanced stage t bytes last filled entry exit after r → SameLengths t after
advanced_keeps {stage} {t} {bytes = bytes} {r = r} a =
    subst (λ (x : Rest). SameLengths t x.tables) (sym (a.tables [] (λ e. refl))) (stage_keeps stage r.stage (record { tables = t; bytes = bytes ++ [] }))

pub then_advanced : {stage : Stage} {t u after : Tables} {bytes entry exit : List ℕ} {last : Bool} {filled : ℕ} {r : Progress}
    → SameLengths t u → Advanced stage u bytes last filled entry exit after r → SameLengths t after
then_advanced kept a = lengths_then kept (advanced_keeps a)
