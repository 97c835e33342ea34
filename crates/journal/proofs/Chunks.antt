-- Chunk by chunk is all at once. Assumes nothing.
use Prim.Native.Nat.{ℕ}
use mathlib.Core.Bool.{Bool, true}
use mathlib.Core.List.{List, [], ◌++◌, append_assoc, append-nil}
use mathlib.Core.Path.{◌≡◌, refl, sym, ap, ◌∙◌}
use native.Mathlib.Omega.{arith}
use lib.Seq.{drop-append-le}
use Rattle.arith.proofs.Tests.{never}
use Rattle.rules.specs.Journal.{journal_text_on}
use Rattle.rules.specs.Ledger.{Tables}
use Rattle.journal.specs.declared.stage.Stage.{Stage}
use Rattle.journal.specs.declared.stage.Stage.TheVariants.{Header, Records, Read, Stopped, ReadToEnd, RecordUnsound, HeaderUnsound}
use Rattle.journal.specs.Stages.{rank, remaining, journal_end_on, end_from}
use Rattle.journal.specs.Chunks.{Turns, start, read, call, ChunkByChunk, AllPrinted}

so_far : {t₀ t : Tables} {last : Bool} {came printed left : List ℕ} {stage : Stage} → Turns t₀ last came printed stage t left
    → (more : List ℕ) → (last ≡ true → more ≡ [])
    → (journal_text_on t₀ (came ++ more) ≡ printed ++ remaining stage t (left ++ more)) × (journal_end_on t₀ (came ++ more) ≡ end_from stage t (left ++ more))
unfolding remaining end_from
so_far start more ends = (refl, refl)
so_far (read {came = before} {left = kept} new last turns) more ends =
    rw (append_assoc before new more, append_assoc kept new more) (so_far turns (new ++ more) (λ e. never (sym e)))
so_far {t = t} (call {printed = before} {left = kept} {r = r} turns a) more ends =
    let earlier = so_far turns more ends in
    let past = drop-append-le r.used kept more a.inside in (
      earlier.0 ∙ (ap (λ x. before ++ x) (a.rest more ends ∙ ap (λ x. a.text ++ remaining r.stage t x) past) ∙ sym (append_assoc before a.text _)),
      earlier.1 ∙ (a.ends more ends ∙ ap (end_from r.stage t) past),
    )

pub chunk_by_chunk : ChunkByChunk
chunk_by_chunk t₀ t last came printed left stage turns = so_far turns

nothing_left : (stage : Stage) (t : Tables) (s : List ℕ) → rank stage ≡ 3 → (remaining stage t s ≡ []) × (end_from stage t s ≡ record { stage = stage; tables = t })
unfolding remaining end_from
nothing_left Header t s e = absurd (omega arith)
nothing_left (Records n k) t s e = absurd (omega arith)
nothing_left (Read n k) t s e = absurd (omega arith)
nothing_left (Stopped n k) t s e = absurd (omega arith)
nothing_left ReadToEnd t s e = (refl, refl)
nothing_left RecordUnsound t s e = (refl, refl)
nothing_left HeaderUnsound t s e = (refl, refl)

pub all_printed_lem : AllPrinted
all_printed_lem t₀ t last came printed left stage turns e more ends =
    let printed-now = so_far turns more ends in
    let none = nothing_left stage t (left ++ more) e in
    (printed-now.0 ∙ (ap (λ x. printed ++ x) none.0 ∙ append-nil printed), printed-now.1 ∙ none.1)
