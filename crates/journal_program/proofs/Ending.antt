-- Stages by their numbers, and how a run ends at them. Assumes nothing.
use Prim.Native.Nat.{ℕ, ◌-◌, ◌<◌}
use mathlib.Core.Bool.{Bool, true, false}
use mathlib.Core.List.{List}
use mathlib.Core.Path.{◌≡◌, refl}
use Rattle.std.proofs.Common.{◌≢◌}
use native.Mathlib.Omega.{arith}
use lib.ListN.{length, drop}
use Rattle.rules.specs.Ledger.{Tables}
use Rattle.journal.specs.declared.stage.Progress.{Progress}
use Rattle.journal.specs.declared.stage.Stage.{Stage}
use Rattle.journal.specs.declared.stage.Stage.TheVariants.{Header, Records, Read, Stopped, ReadToEnd, RecordUnsound, HeaderUnsound}
use Rattle.journal.specs.declared.stage.Wants.TheVariants.{Nothing, Bytes, Room}
use Rattle.journal.specs.Stages.{Advanced, Short, rank, counted_at}
use Rattle.streams.specs.declared.ending.Ending.{Ending}
use Rattle.streams.specs.declared.ending.Ending.TheVariants.{WriteFailed}
use Rattle.streams.specs.Windows.{failed, finished}
use Rattle.journal_program.specs.Runs.{Ends, not_written, not_read}

-- The four stages of a match's last arm.
pub below_last : (stage : Stage) → stage ≢ ReadToEnd → stage ≢ RecordUnsound → stage ≢ HeaderUnsound → rank stage < 3
below_last Header a b c = omega arith
below_last (Records n k) a b c = omega arith
below_last (Read n k) a b c = omega arith
below_last (Stopped n k) a b c = omega arith
below_last ReadToEnd a b c = absurd (a refl)
below_last RecordUnsound a b c = absurd (b refl)
below_last HeaderUnsound a b c = absurd (c refl)

pub none_counted : (stage : Stage) → ((n k : ℕ) → stage ≢ Records n k) → ((n k : ℕ) → stage ≢ Read n k) → ((n k : ℕ) → stage ≢ Stopped n k)
    → 0 ≡ counted_at stage
unfolding counted_at
none_counted Header a b c = refl
none_counted (Records n k) a b c = absurd (a n k refl)
none_counted (Read n k) a b c = absurd (b n k refl)
none_counted (Stopped n k) a b c = absurd (c n k refl)
none_counted ReadToEnd a b c = refl
none_counted RecordUnsound a b c = refl
none_counted HeaderUnsound a b c = refl

-- Bytes are wanted only where more can come, and less than a header or record is left.
pub wants_bytes : {stage : Stage} {t after : Tables} {bytes entry exit : List ℕ} {last : Bool} {filled : ℕ} {r : Progress}
    → Advanced stage t bytes last filled entry exit after r → r.wants ≡ Bytes → (last ≡ false) × Short r.stage (drop r.used bytes)
wants_bytes {entry = entry} {r = r} a e = rw e at (a.asks (length entry - r.end) (omega (arith, a.within)))

-- ---- how a run ends
pub ends_finished : {stage last : Stage} {ending r : Ending} → stage ≡ last → rank last ≡ 3 → Ends Nothing last ending → finished ending r → Ends Nothing stage r
ends_finished is top h (true, e) = rw (is, e) h
ends_finished is top h (false, e) = rw (is, e) (not_written top)

pub ends_failed : (stage : Stage) (r : Ending) → failed r → Ends Bytes stage r
ends_failed stage r (true, e) = rw e not_read
ends_failed stage r (false, e) = rw e (not_written tt)

pub ends_unwritten : (stage : Stage) (r : Ending) → r ≡ WriteFailed → Ends Room stage r
ends_unwritten stage r e = rw e (not_written tt)
