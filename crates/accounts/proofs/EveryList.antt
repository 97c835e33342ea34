-- What every call keeps holds after every list, from a fresh ledger.
use Prim.Native.Nat.{ℕ, ◌+◌, ◌<◌}
use mathlib.Core.Path.{◌≡◌, refl, sym, ap, subst, ◌∙◌}
use mathlib.Core.Bool.{not}
use mathlib.Core.List.{List, [], ◌∷◌}
use native.Mathlib.Nat.{zero-add}
use lib.Dec.{T}
use lib.IntN.{ℤ}
use Rattle.arith.specs.Lists.{from}
use Rattle.arith.proofs.Tests.{passed, failed}
use Rattle.rules.specs.Header.{header_of, begins_with_header}
use Rattle.rules.specs.Ledger.{Tables, with_lines, ggf, lots_run, orders, line_run, ledger_short, fresh}
use Rattle.rules.specs.Refusals.{apply_spec, make_spec}
use Rattle.rules.specs.Accounts.{Call, call_spec, after, log}
use Rattle.rules.proofs.SoundTables.{Long, long_enough}
use Rattle.rules.proofs.SoundHeaders.{SoundHeader, header_gives, begun}
use Rattle.accounts.proofs.Fresh.{counts_of}
use Rattle.accounts.proofs.Runs.{orders_same}
use Rattle.accounts.proofs.TwoBookkeepers.{made, known}
use Rattle.accounts.specs.EveryList.{Uncrossed, RisingNumbers, NoneDefaulted, NeverCrossed, NumbersRise, DefaultedNeverRest, RunIsLogged, DayIsTheLists, GgfNeverLost}
use Rattle.accounts.proofs.EachKind.{every_call}
use Rattle.accounts.proofs.KindsKeep.{kind_keeps}
use Rattle.accounts.proofs.LotsRun.{run_after}
use Rattle.accounts.proofs.GgfStays.{Found}

module _ (I : Tables → Type 0) (lent : (l : List ℤ) (t : Tables) → I t → I (with_lines l t)) (kept : (t : Tables) (bytes : List ℕ) → I t → I (apply_spec t bytes).after) where
  pub kept_after : (calls : List Call) (t : Tables) → I t → I (after t calls)
  unfolding after
  kept_after [] t a = a
  kept_after (call ∷ calls) t a = kept_after calls (call_spec t call).after (kept (with_lines call.lines t) call.bytes (lent call.lines t a))

  pub kept_always : (header : List ℕ) (t : Tables) (calls : List Call) (b : T (begins_with_header header)) (long : T (not (ledger_short t)))
      → (SoundHeader (header_of header) → Long t → I (fresh (header_of header) t)) → I (after (make_spec t header).after calls)
  kept_always header t calls b long f =
      kept_after calls (make_spec t header).after
      (subst I (sym (made header t b long)) (f (header_gives (header_of header) (begun header (passed _ b))) (long_enough t (failed (ledger_short t) long))))

-- no order rests in a fresh ledger
fresh_empty : (header : List ℕ) (t : Tables) → SoundHeader (header_of header) → Long t → orders (fresh (header_of header) t) ≡ []
unfolding fresh orders from
fresh_empty header t f l = rw (counts_of (header_of header) f t.head l.head).3

fresh_run : (header : List ℕ) (t : Tables) → SoundHeader (header_of header) → Long t → lots_run (fresh (header_of header) t) ≡ 0
unfolding fresh
fresh_run header t f l = (counts_of (header_of header) f t.head l.head).2

pub never_crossed : NeverCrossed
never_crossed header t calls b long =
    kept_always (λ u. Uncrossed (orders u)) (λ l u a. rw (orders_same u (with_lines l u) refl refl) a)
    (every_call (λ u o. Uncrossed (orders u) → Uncrossed (orders o.after)) (λ u x q a. a) (λ e u legs v q n. (kind_keeps e u legs v q n).uncrossed)) header t calls b long
    (λ f l. rw (fresh_empty header t f l) tt)

pub numbers_rise : NumbersRise
numbers_rise header t calls b long =
    kept_always (λ u. RisingNumbers (orders u)) (λ l u a. rw (orders_same u (with_lines l u) refl refl) a)
    (every_call (λ u o. RisingNumbers (orders u) → RisingNumbers (orders o.after)) (λ u x q a. a) (λ e u legs v q n. (kind_keeps e u legs v q n).rising)) header t calls b long
    (λ f l. rw (fresh_empty header t f l) tt)

pub defaulted_never_rest : DefaultedNeverRest
defaulted_never_rest header t calls b long =
    kept_always NoneDefaulted (λ l u a. rw (orders_same u (with_lines l u) refl refl) a)
    (every_call (λ u o. NoneDefaulted u → NoneDefaulted o.after) (λ u x q a. a) (λ e u legs v q n. (kind_keeps e u legs v q n).marks)) header t calls b long (λ f l. rw (fresh_empty header t f l) tt)

pub day_is_the_lists : DayIsTheLists
day_is_the_lists header t calls b long = (known header t b long calls).runs.today

pub run_is_logged : RunIsLogged
run_is_logged header t calls b long =
    let h = header_of header in
    let start = (make_spec t header).after in
    let zero = ap lots_run (made header t b long) ∙ fresh_run header t (header_gives h (begun header (passed _ b))) (long_enough t (failed (ledger_short t) long)) in
    run_after calls start ∙ ap (λ n. n + line_run (log start calls)) zero ∙ zero-add (line_run (log start calls))

pub ggf_never_lost : GgfNeverLost
ggf_never_lost t calls c h =
    kept_after (λ u. 0 < ggf u c) (λ l u g. g)
    (λ u bytes. every_call (λ u o. Found u o.after) (λ u x q c h g. g) (λ e u legs v q n. (kind_keeps e u legs v q n).found) u bytes c h) calls t
