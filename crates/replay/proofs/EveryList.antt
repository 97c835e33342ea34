-- From a record of each kind to every list, and from a header on. Assumes nothing.
use Prim.Native.Nat.{ℕ, ◌<◌}
use mathlib.Core.Path.{◌≡◌, refl, sym, subst, ◌∙◌}
use mathlib.Core.Bool.{true, false}
use mathlib.Core.List.{List, [], ◌∷◌}
use lib.IntN.{ℤ}
use Rattle.std.specs.Prelude.{Option, Some, None, Result, Err}
use Rattle.arith.proofs.Tests.{true_or}
use Rattle.rules.specs.declared.refusal.Refusal.TheVariants.{RecordUnsound}
use Rattle.rules.specs.Answers.{Outcome, Cause, decide}
use Rattle.rules.specs.Ledger.{Tables, members, holiday_count, order_count, with_lines, ledger_short, lines_short}
use Rattle.rules.specs.Records.{legs_of, read_of}
use Rattle.rules.specs.Refusals.{unsound, kind_causes, kind_booked, event_spec, reading_spec, apply_spec}
use Rattle.rules.specs.Accounts.{Column, lots, value, row, Call, call_spec, after, is_accepted, lines_of}
use Rattle.rules.specs.Ranges.{contract_count}
use Rattle.rules.proofs.SoundTables.{Long, Undamaged, undamaged}
use Rattle.accounts.proofs.EachKind.{never_accepted, read_sound}
use Rattle.accounts.proofs.LengthsStay.{lengths_stay}
use Rattle.accounts.proofs.SameLengths.{stays_long}
use Rattle.replay.specs.Surplus.{SameButSurplus}
use Rattle.replay.specs.Replay.{SameRecord, answered, ReplaysAlike}
use Rattle.replay.proofs.Same.{same_members}
use Rattle.replay.proofs.Damage.{same_unsound}
use Rattle.replay.proofs.Alike.{Alike, alike_of, same_of}
use Rattle.replay.proofs.EachKind.{OutcomesAlike}
use Rattle.replay.proofs.KindsReplay.{kind_replays}
use Rattle.rules.specs.declared.event.Event.{Event}
use Rattle.rules.specs.declared.refusal.Refusal.{Refusal}

-- ---- one record
module _ {n k q : ℕ} {t u : Tables} (a : Alike n k q t u) where
  refused_alike : (x : Result ℕ Refusal) → is_accepted x ≡ false → OutcomesAlike n k (record { answer = x; after = t }) (record { answer = x; after = u })
  refused_alike x e = record { answer = refl; lines = rw e refl; count = q; ledger = a }

  decide_alike : (causes : List Cause) (o o' : Outcome Tables) → OutcomesAlike n k o o' → OutcomesAlike n k (decide causes t o) (decide causes u o')
  decide_alike [] o o' b = b
  decide_alike ((true, x) ∷ causes) o o' b = refused_alike (Err x) (never_accepted x)
  decide_alike ((false, x) ∷ causes) o o' b = decide_alike causes o o' b

module _ (t u : Tables) (s : SameButSurplus t u) (a : Undamaged t) (l : Long u) where
  start : Alike (members t) (holiday_count t) (order_count t) t u
  start = alike_of t u s a.long l

  reading_alike : (x : Option Event) (bytes : List ℕ) → read_of (members t) bytes ≡ x → OutcomesAlike (members t) (holiday_count t) (reading_spec t x (legs_of bytes)) (reading_spec u x (legs_of bytes))
  unfolding reading_spec event_spec
  reading_alike (Some e) bytes r =
      let legs = legs_of bytes in
      let k = kind_replays e t legs a (read_sound (members t) bytes e r) in
      subst (λ causes. OutcomesAlike (members t) (holiday_count t) (decide (kind_causes t e legs) t (kind_booked t e legs)) (decide causes u (kind_booked u e legs))) (k.causes u s l)
      (decide_alike start (kind_causes t e legs) (kind_booked t e legs) (kind_booked u e legs) (k.alike u s l))
  reading_alike None bytes r = refused_alike start (Err RecordUnsound) refl

-- the same answer, the same lines, and ledgers that agree but for surplus
pub record SameOutcome (o o' : Outcome Tables) : Type 0 where
  pub answer : o.answer ≡ o'.answer
  pub lines : lines_of o.answer o.after.lines ≡ lines_of o'.answer o'.after.lines
  pub ledger : SameButSurplus o.after o'.after

outcome_of_lem : {n k : ℕ} {o o' : Outcome Tables} → OutcomesAlike n k o o' → Long o.after → Long o'.after → SameOutcome o o'
outcome_of_lem {o = o} {o' = o'} a l l' = record { answer = a.answer; lines = a.lines; ledger = same_of o.after o'.after a.ledger l l' }

pub apply_alike : (t u : Tables) (bytes : List ℕ) → SameButSurplus t u → lines_short t ≡ lines_short u → SameOutcome (apply_spec t bytes) (apply_spec u bytes)
apply_alike t u bytes s short =
    true_or (unsound t) (λ e. refused e (sym (same_unsound t u s short) ∙ e)) (λ e. accepted e (sym (same_unsound t u s short) ∙ e))
  where
    refused : unsound t ≡ true → unsound u ≡ true → SameOutcome (apply_spec t bytes) (apply_spec u bytes)
    refused e f = unfold apply_spec in rw (e, f) (record { answer = refl; lines = refl; ledger = s })

    accepted : unsound t ≡ false → unsound u ≡ false → SameOutcome (apply_spec t bytes) (apply_spec u bytes)
    accepted e f =
        let a = undamaged t e in
        let l = (undamaged u f).long in
        let whole : OutcomesAlike (members t) (holiday_count t) (apply_spec t bytes) (apply_spec u bytes) = unfold apply_spec in
        rw (e, f, ← same_members t u s) (reading_alike t u s a l (read_of (members t) bytes) bytes refl) in
        outcome_of_lem whole (stays_long (lengths_stay t bytes) a.long) (stays_long (lengths_stay u bytes) l)

-- ---- every list
-- the line table is each call's own
lines_lent : (l l' : List ℤ) (t u : Tables) → SameButSurplus t u → SameButSurplus (with_lines l t) (with_lines l' u)
unfolding ledger_short
lines_lent l l' t u s = record { short = s.short; head = s.head; prices = s.prices; rows = rows; book = s.book }
  where
    rows : (x : Column) (c m : ℕ) → c < contract_count → m < members t → row x (with_lines l t) c m ≡ row x (with_lines l' u) c m
    rows lots c m h g = s.rows lots c m h g
    rows value c m h g = s.rows value c m h g

call_alike : (t u : Tables) (call other : Call) → SameButSurplus t u → SameRecord call other → SameOutcome (call_spec t call) (call_spec u other)
unfolding lines_short
call_alike t u call other s r =
    rw (← r.0) (apply_alike (with_lines call.lines t) (with_lines other.lines u) call.bytes (lines_lent call.lines other.lines t u s) r.1)

pub replays_alike : ReplaysAlike
unfolding answered after
replays_alike t u [] [] s r = record { answers = refl; ledger = s }
replays_alike t u [] (other ∷ others) s r = absurd r
replays_alike t u (call ∷ calls) [] s r = absurd r
replays_alike t u (call ∷ calls) (other ∷ others) s r =
    let one = call_alike t u call other s r.0 in
    let rest = replays_alike (call_spec t call).after (call_spec u other).after calls others one.ledger r.1 in
    record { answers = λ i. (one.answer i, one.lines i) ∷ rest.answers i; ledger = rest.ledger }
