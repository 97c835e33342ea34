-- The lots run grows by the lines of each call.
use Prim.Native.Nat.{ℕ, ◌+◌}
use mathlib.Core.Path.{◌≡◌, refl}
use mathlib.Core.Bool.{Bool, true, false}
use mathlib.Core.List.{List, [], ◌∷◌}
use native.Mathlib.Omega.{arith}
use Rattle.std.specs.Prelude.{Result}
use Rattle.arith.specs.Lists.{total}
use Rattle.rules.specs.declared.event.Event.{Event}
use Rattle.rules.specs.declared.event.Leg.{Leg}
use Rattle.rules.specs.Answers.{Outcome}
use Rattle.rules.specs.Ledger.{Tables, members, with_lines, lots_run, line_run}
use Rattle.rules.specs.Records.{is_close_of_day, event_sound}
use Rattle.rules.specs.Refusals.{kind_booked}
use Rattle.rules.specs.Accounts.{Call, call_spec, after, is_accepted, lines_of, log}
use Rattle.rules.proofs.SoundTables.{Undamaged}
use Rattle.accounts.proofs.EachKind.{NoCause, every_call}
use Rattle.accounts.proofs.KindsKeep.{RowsMove, kind_keeps}
use Rattle.rules.proofs.LinesRun.{run_append}
use Rattle.rules.specs.declared.refusal.Refusal.{Refusal}

-- what a call on t adds to the lots run is what its lines run to
abbrev Runs : Tables → Outcome Tables → Type 0
Runs t o = lots_run o.after ≡ lots_run t + line_run (lines_of o.answer o.after.lines)

no_run : line_run [] ≡ 0
unfolding line_run total
no_run = refl

moved_runs : (b : Bool) (t : Tables) (o : Outcome Tables) → RowsMove b t o → Runs t o
moved_runs false t o p = rw p.printed p.run
moved_runs true t o p = rw p.printed (omega (arith, p.run, no_run))

kind_runs : (e : Event) (t : Tables) (legs : List Leg) → Undamaged t → event_sound (members t) e legs ≡ true → NoCause t e legs → Runs t (kind_booked t e legs)
kind_runs e t legs u q n = moved_runs (is_close_of_day e) t (kind_booked t e legs) (kind_keeps e t legs u q n).rows

refused_runs : (t : Tables) (a : Result ℕ Refusal) → is_accepted a ≡ false → Runs t (record { answer = a; after = t })
refused_runs t a q = rw q (omega (arith, no_run))

pub run_after : (calls : List Call) (t : Tables) → lots_run (after t calls) ≡ lots_run t + line_run (log t calls)
unfolding after log
run_after [] t = omega (arith, no_run)
run_after (call ∷ calls) t =
    let o = call_spec t call in
    let one = every_call Runs refused_runs kind_runs (with_lines call.lines t) call.bytes in
    omega (arith, run_after calls o.after, one, run_append (lines_of o.answer o.after.lines) (log o.after calls))
