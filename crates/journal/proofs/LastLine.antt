-- A call that runs no bytes: it waits for room, prints E, or finds all printed. Assumes nothing.
use Prim.Native.Nat.{ℕ, ◌+◌, ◌-◌, ◌<◌, ◌≤◌}
use mathlib.Core.Bool.{Bool}
use mathlib.Core.List.{List, append-nil}
use mathlib.Core.Path.{◌≡◌, refl, sym, ap}
use Rattle.std.proofs.Common.{◌⊎◌, inl, inr}
use native.Mathlib.Omega.{arith}
use lib.ListN.{length}
use Rattle.rules.specs.Journal.{end_text}
use Rattle.rules.specs.Ledger.{Tables, with_head}
use Rattle.text.specs.Wrote.{Wrote}
use Rattle.printing.specs.Room.{line_room}
use Rattle.journal.specs.Room.{room_wanted}
use Rattle.journal.specs.declared.stage.Progress.{Progress}
use Rattle.journal.specs.declared.stage.Stage.{Stage}
use Rattle.journal.specs.declared.stage.Stage.TheVariants.{Header, Records, Read, Stopped, ReadToEnd, RecordUnsound, HeaderUnsound}
use Rattle.journal.specs.declared.stage.Wants.TheVariants.{Nothing, Room}
use Rattle.journal.specs.Stages.{remaining, end_from, after_stage, rank, Counts, EndPrinted, Advanced}
use Rattle.journal.proofs.Starts.{none_run}

counts_more : (stage : Stage) (most more : ℕ) → Counts stage most → Counts stage (most + more)
counts_more Header most more c = tt
counts_more (Records n k) most more c = (c.0, omega arith)
counts_more (Read n k) most more c = (c.0, omega arith)
counts_more (Stopped n k) most more c = (c.0, omega arith)
counts_more ReadToEnd most more c = tt
counts_more RecordUnsound most more c = tt
counts_more HeaderUnsound most more c = tt

-- The counts of a stage that has them.
pub records_counts : {stage : Stage} {n k most : ℕ} → stage ≡ Records n k → Counts stage most → (k ≤ n) × (n ≤ most)
records_counts e c = rw e at c

pub read_counts : {stage : Stage} {n k most : ℕ} → stage ≡ Read n k → Counts stage most → (k ≤ n) × (n ≤ most)
read_counts e c = rw e at c

pub stopped_counts : {stage : Stage} {n k most : ℕ} → stage ≡ Stopped n k → Counts stage most → (k ≤ n) × (n ≤ most)
stopped_counts e c = rw e at c

module _ (stage : Stage) (t : Tables) (bytes : List ℕ) (last : Bool) (filled : ℕ) (entry : List ℕ) (fits : filled ≤ length entry) {r : Progress} where
  pub waits : length entry - filled < room_wanted → r ≡ record { used = 0; end = filled; stage = stage; wants = Room } → Advanced stage t bytes last filled entry entry t r
  waits h e = rw e (none_run stage t bytes last filled entry Room fits (λ room f. omega arith) (λ most c. counts_more stage most (length bytes) c))

  pub all_printed_lem : rank stage ≡ 3 → r ≡ record { used = 0; end = filled; stage = stage; wants = Nothing } → Advanced stage t bytes last filled entry entry t r
  all_printed_lem h e = rw e (none_run stage t bytes last filled entry Nothing fits (λ room f g. absurd (omega arith)) (λ most c. counts_more stage most (length bytes) c))

-- E is printed.
pub end_printed : {stage : Stage} {n k filled end : ℕ} {head entry exit : List ℕ} {r : Progress}
    → ((t : Tables) → Wrote filled (end_text n k (with_head head t)) entry exit end) → end ≤ filled + line_room
    → r ≡ record { used = 0; end = end; stage = stage; wants = Nothing } → EndPrinted stage n k head filled entry exit r
end_printed w short e = rw e (record { wrote = w; room = short; stands = refl })

-- After E nothing is left to print.
module _ (t : Tables) (bytes : List ℕ) (last : Bool) (filled : ℕ) (entry exit : List ℕ) (n k : ℕ) (room : filled + line_room ≤ length entry) {r : Progress} where
  pub read_line : {stage : Stage} → stage ≡ Read n k → EndPrinted ReadToEnd n k t.head filled entry exit r → Advanced stage t bytes last filled entry exit t r
  unfolding remaining end_from after_stage
  read_line e w =
      rw (e, w.stands)
      (record {
        text = end_text n k t;
        wrote = w.wrote t;
        inside = omega arith;
        within = omega (arith, w.room);
        counts = λ most c. tt;
        asks = λ room' g h. omega arith;
        rest = λ more ends. sym
            (append-nil (end_text n k t));
        tables = λ more ends. refl;
        ends = λ more ends. refl;
      })

  pub stopped_line : {stage : Stage} → stage ≡ Stopped n k → EndPrinted RecordUnsound n k t.head filled entry exit r → Advanced stage t bytes last filled entry exit t r
  unfolding remaining end_from after_stage
  stopped_line e w =
      rw (e, w.stands)
      (record {
        text = end_text n k t;
        wrote = w.wrote t;
        inside = omega arith;
        within = omega (arith, w.room);
        counts = λ most c. tt;
        asks = λ room' g h. omega arith;
        rest = λ more ends. sym
            (append-nil (end_text n k t));
        tables = λ more ends. refl;
        ends = λ more ends. refl;
      })

pub last_rank : {stage : Stage} → (stage ≡ ReadToEnd) ⊎ ((stage ≡ RecordUnsound) ⊎ (stage ≡ HeaderUnsound)) → rank stage ≡ 3
last_rank (inl e) = ap rank e
last_rank (inr (inl e)) = ap rank e
last_rank (inr (inr e)) = ap rank e
