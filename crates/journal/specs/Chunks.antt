-- A journal that comes chunk by chunk prints what it prints as a whole, and ends as it ends.
use Rattle.std.specs.Prelude.{Bool, true, false, List, [], ◌++◌, ◌≡◌, ℕ, drop}
use Rattle.rules.specs.Journal.{journal_text_on}
use Rattle.rules.specs.Ledger.{Tables}
use Rattle.journal.specs.declared.stage.Progress.{Progress}
use Rattle.journal.specs.declared.stage.Stage.{Stage}
use Rattle.journal.specs.declared.stage.Stage.TheVariants.{Header}
use Rattle.journal.specs.Stages.{Advanced, rank, remaining, journal_end_on, end_from}

-- Turns of a program that runs a journal on these tables: bytes come behind those that are left, or a call of `advance` runs what it
-- can of these. What is known after them: whether no more bytes come, which bytes came, what was printed, the stage, the tables and
-- the bytes left.
pub data Turns : Tables → Bool → List ℕ → List ℕ → Stage → Tables → List ℕ → Type 0 where
  start : {t₀ : Tables} → Turns t₀ false [] [] Header t₀ []
  read : {t₀ t : Tables} {came printed left : List ℕ} {stage : Stage} (more : List ℕ) (last : Bool) → Turns t₀ false came printed stage t left
      → Turns t₀ last (came ++ more) printed stage t (left ++ more)
  call : {t₀ t after : Tables} {last : Bool} {came printed left entry exit : List ℕ} {stage : Stage} {filled : ℕ} {r : Progress}
      → Turns t₀ last came printed stage t left → (a : Advanced stage t left last filled entry exit after r)
      → Turns t₀ last came (printed ++ a.text) r.stage after (drop r.used left)

-- So far: what was printed, with what is still to be printed, is the text of the journal, and its end is that of what is left.
abbrev pub ChunkByChunk : Type 0
ChunkByChunk =
    (t₀ t : Tables) (last : Bool) (came printed left : List ℕ) (stage : Stage) → Turns t₀ last came printed stage t left
    → (more : List ℕ) → (last ≡ true → more ≡ [])
    → (journal_text_on t₀ (came ++ more) ≡ printed ++ remaining stage t (left ++ more)) × (journal_end_on t₀ (came ++ more) ≡ end_from stage t (left ++ more))

-- At the last stage: what was printed is the text of the journal, whatever comes behind, and its end is this stage with these tables.
abbrev pub AllPrinted : Type 0
AllPrinted =
    (t₀ t : Tables) (last : Bool) (came printed left : List ℕ) (stage : Stage) → Turns t₀ last came printed stage t left → rank stage ≡ 3
    → (more : List ℕ) → (last ≡ true → more ≡ [])
    → (journal_text_on t₀ (came ++ more) ≡ printed) × (journal_end_on t₀ (came ++ more) ≡ record { stage = stage; tables = t })
