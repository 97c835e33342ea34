-- The chain of turns, and what it printed at the end. Assumes nothing.
use Prim.Native.Nat.{ℕ, ◌+◌, ◌-◌, ◌≤◌}
use mathlib.Core.Bool.{Bool, true, false}
use mathlib.Core.List.{List, [], ◌++◌, append_assoc, append-nil}
use mathlib.Core.Path.{◌≡◌, refl, sym, ap, ◌∙◌}
use lib.ListN.{length, take, drop, replicate, length-replicate, replicate-append-replicate}
use lib.Seq.{take_at, drop_at}
use lib.IntN.{ℤ}
use Rattle.rules.specs.Ledger.{Tables, lent}
use Rattle.journal.specs.declared.stage.Progress.{Progress}
use Rattle.journal.specs.declared.stage.Stage.{Stage}
use Rattle.journal.specs.declared.stage.Stage.TheVariants.{Header}
use Rattle.journal.specs.declared.stage.Wants.{Wants}
use Rattle.journal.specs.declared.stage.Wants.TheVariants.{Bytes}
use Rattle.journal.specs.Chunks.{Turns, start, call, read as read-turn}
use Rattle.journal.specs.Stages.{Advanced, JournalEnd, Short, rank}
use Rattle.journal.proofs.Chunks.{chunk_by_chunk, all_printed_lem}
use Rattle.streams.specs.declared.ending.Ending.{Ending}
use Rattle.streams.specs.declared.window.Window.{Window}
use Rattle.streams.specs.Windows.{held}
use Rattle.streams.proofs.Reading.{held_past, held_read, printed_on}
use Rattle.std.specs.Prelude.{Result, Ok, Err}
use Rattle.journal_program.specs.declared.shell.Place.{Place}
use Rattle.journal_program.proofs.Ending.{wants_bytes}
use Rattle.journal_program.specs.Runs.{Ends, read_to_end, header_unsound, record_unsound, not_written, not_read, Moves, stays, wrote, read, place_after, Turned, calls, Reached, TurnsEnd, with_last, too_many, RanTurns, WholeText, FirstText, prints_as, JournalRan}

-- Told by an equal text.
told_printed : {t₀ t : Tables} {last : Bool} {came printed printed' left : List ℕ} {stage : Stage} {count : ℕ} → printed' ≡ printed
    → (y : Turns t₀ last came printed stage t left) → calls y ≡ count → ((z : Turns t₀ last came printed' stage t left) × (calls z ≡ count))
told_printed e y counted = rw e (y, counted)

module _ {t₀ t : Tables} {output : List ℕ} {count : ℕ} where
  -- Told by equal words.
  as_told : {last last' : Bool} {stage stage' : Stage} {filled filled' : ℕ} {left left' : List ℕ} → last' ≡ last → stage' ≡ stage → filled' ≡ filled → left' ≡ left
      → Reached t₀ t output count last stage filled left → Reached t₀ t output count last' stage' filled' left'
  as_told e f g h x = rw (e, f, g, h) x

  -- What is printed is handed over.
  handed : {last : Bool} {stage : Stage} {filled : ℕ} {left : List ℕ} → Reached t₀ t output count last stage filled left
      → Reached t₀ t output count last stage 0 left
  handed {filled = filled} x =
      let y = told_printed (append-nil (x.written ++ take filled output)) x.turns x.counted in
      record { came = x.came; written = x.written ++ take filled output; turns = y.0; counted = y.1 }

  more_came : {stage : Stage} {filled : ℕ} {left : List ℕ} (more : List ℕ) (last : Bool) → Reached t₀ t output count false stage filled left
      → Reached t₀ t output count last stage filled (left ++ more)
  unfolding calls
  more_came more last x = record { came = x.came ++ more; written = x.written; turns = read-turn more last x.turns; counted = x.counted }

  -- One call more.
  called : {t' : Tables} {output' : List ℕ} {last : Bool} {stage : Stage} {filled : ℕ} {left : List ℕ} {r : Progress}
      → Reached t₀ t output count last stage filled left → Advanced stage t left last filled output output' t' r → filled ≤ length output
      → Reached t₀ t' output' (count + 1) last r.stage r.end (drop r.used left)
  unfolding calls
  called {filled = filled} x a fits =
      let y =
      told_printed (ap (λ l. x.written ++ l) (printed_on a.wrote fits) ∙ sym (append_assoc x.written (take filled output) a.text))
      (call x.turns a) (ap (λ n. n + 1) x.counted) in
      record { came = x.came; written = x.written; turns = y.0; counted = y.1 }

same_part : {a a' b b' : ℕ} {l l' : List ℕ} → a' ≡ a → b' ≡ b → l' ≡ l → take (b' - a') (drop a' l') ≡ take (b - a) (drop a l)
same_part e f g = rw (e, f, g) refl

-- Before the first turn.
pub reached_first : {t : Tables} {output : List ℕ} (input : List ℕ) (p : Place) → p.stage ≡ Header → p.window.from ≡ 0 → p.window.end ≡ 0 → p.window.is_last ≡ false
    → p.window.filled ≡ 0 → Reached t t output 0 p.window.is_last p.stage p.window.filled (held p.window input)
unfolding calls
reached_first input p e f g l h =
    as_told l e h (same_part {a = 0} {b = 0} {l = input} f g refl) (record { came = []; written = []; turns = start; counted = refl })

moved : {t₀ t : Tables} {output : List ℕ} {count : ℕ} {stage : Stage} {w r : Window} {input exit : List ℕ} {wants : Wants} → Moves stage w r input exit wants
    → Reached t₀ t output count w.is_last stage w.filled (held w input) → Reached t₀ t output count r.is_last stage r.filled (held r exit)
moved (stays low e same) x = rw (e, same) x
moved (wrote m same) x = as_told m.last refl m.written (same_part m.from m.end same) (handed x)
moved {r = r} (read not_last m) x = as_told refl refl m.written (held_read m) (more_came _ r.is_last (as_told (sym not_last) refl refl refl (handed x)))

-- One turn more.
module _ {t₀ t t' : Tables} {p : Place} {count : ℕ} {input output input' output' : List ℕ} {next : Result Place Ending} (w : Turned p input output t input' output' t' next)
    (x : Reached t₀ t output count p.window.is_last p.stage p.window.filled (held p.window input)) (fits : p.window.filled ≤ length output) where
  after_call : Reached t₀ t' output' (count + 1) p.window.is_last w.done.stage w.done.end (held (place_after p w.done).window input)
  after_call = as_told refl refl refl (held_past p.window input w.done.used w.ran.inside) (called x w.ran fits)

  short : w.done.wants ≡ Bytes → (p.window.is_last ≡ false) × Short w.done.stage (held (place_after p w.done).window input)
  short e = let asked = wants_bytes w.ran e in (asked.0, rw (held_past p.window input w.done.used w.ran.inside) asked.1)

  pub turned_on : {q : Place} → next ≡ Ok q → Reached t₀ t' output' (count + 1) q.window.is_last q.stage q.window.filled (held q.window input')
  turned_on e = let f = rw e at w.follows in as_told refl f.0 refl refl (moved f.1 after_call)

  pub turned_end : {ending : Ending} → next ≡ Err ending → RanTurns t₀ t' output' ending
  turned_end e =
      record {
        count = count + 1;
        last = p.window.is_last;
        stage = w.done.stage;
        filled = w.done.end;
        left = held (place_after p w.done).window input;
        reached = after_call;
        ends = with_last short (rw e at w.follows);
      }

-- ---- what was printed
module _ {t₀ t : Tables} {last : Bool} {came printed left : List ℕ} (more : List ℕ) (is-end : last ≡ true → more ≡ []) where
  whole : {stage : Stage} → Turns t₀ last came printed stage t left → rank stage ≡ 3 → WholeText t₀ stage (came ++ more) printed
  whole {stage} turns e =
      let a = all_printed_lem t₀ t last came printed left stage turns e more is-end in
      (a.0, ap (λ (x : JournalEnd). x.stage) a.1)

  begun : {stage : Stage} → Turns t₀ last came printed stage t left → FirstText t₀ (came ++ more) printed
  begun {stage} turns = (_, (chunk_by_chunk t₀ t last came printed left stage turns more is-end).0)

  prints_last : {wants : Wants} {stage : Stage} {ending : Ending} → Ends wants stage ending → Turns t₀ last came printed stage t left
      → prints_as t₀ ending (came ++ more) printed
  prints_last read_to_end turns = whole turns refl
  prints_last header_unsound turns = whole turns refl
  prints_last record_unsound turns = whole turns refl
  prints_last not_read turns = begun turns
  prints_last (not_written h) turns = begun turns

  prints : {count : ℕ} {stage : Stage} {ending : Ending} → TurnsEnd count last stage left ending → Turns t₀ last came printed stage t left
      → prints_as t₀ ending (came ++ more) printed
  prints (with_last h ends) turns = prints_last ends turns
  prints (too_many e) turns = begun turns

pub journal_ran : {t₀ t : Tables} {output : List ℕ} {ending : Ending} → RanTurns t₀ t output ending → JournalRan t₀ ending
journal_ran {output = output} w =
    record {
      came = w.reached.came;
      last = w.last;
      printed = w.reached.written ++ take w.filled output;
      prints = λ more is-end. prints more is-end w.ends w.reached.turns;
    }

pub on_rows : {head prices book : List ℕ} {lots value rows lines : List ℤ} {ending : Ending} → lots ≡ rows → value ≡ rows
    → JournalRan (lent head prices lots value book lines) ending → JournalRan (lent head prices rows rows book lines) ending
on_rows e f x = rw (e, f) at x

-- The rows that are lent, of zeros.
pub zero_rows_lem : {A : Type 0} (n : ℕ) (a : A) → take n (drop 1 (replicate (1 + (n + 1)) a)) ≡ replicate n a
zero_rows_lem n a =
    rw (← replicate-append-replicate 1 (n + 1) a, drop_at (replicate 1 a) (replicate (n + 1) a) 1 (length-replicate 1 a), ← replicate-append-replicate n 1 a)
    (take_at (replicate n a) (replicate 1 a) n (length-replicate n a))
