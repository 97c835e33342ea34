-- Tables that are sound stay so, whatever they hold: no ledger fresh from a header is assumed. Only a close of day can change that,
-- since a cascade adds rows to rows.
use Rattle.std.specs.Prelude.{ℕ, ◌≡◌, Bool, false, not, ◌&&◌, List, Option, Some, None, Result}
use Rattle.rules.specs.Answers.{Outcome}
use Rattle.rules.specs.Ledger.{Tables, members}
use Rattle.rules.specs.Records.{is_close_of_day, read_of}
use Rattle.rules.specs.Refusals.{rows_sound, unsound, apply_spec}
use Rattle.rules.specs.Accounts.{is_accepted}
use Rattle.rules.specs.declared.event.Event.{Event}
use Rattle.rules.specs.declared.refusal.Refusal.{Refusal}

abbrev pub is_close : Option Event → Bool
is_close (Some e) = is_close_of_day e
is_close None = false

-- A record that was read as x and answered with a is an accepted close of day.
abbrev pub closed_by : Option Event → Result ℕ Refusal → Bool
closed_by x a = is_accepted a && is_close x

-- For all tables and bytes: after anything but an accepted close of day, sound tables are sound.
abbrev pub SoundAfter : Tables → List ℕ → Outcome Tables → Type 0
SoundAfter t bytes o = unsound t ≡ false → closed_by (read_of (members t) bytes) o.answer ≡ false → unsound o.after ≡ false

abbrev pub StaysSound : Type 0
StaysSound = (t : Tables) (bytes : List ℕ) → SoundAfter t bytes (apply_spec t bytes)

-- After a close of day too, of all that is tested only the rows can be unsound.
abbrev pub SoundButRows : Tables → Outcome Tables → Type 0
SoundButRows t o = unsound t ≡ false → unsound o.after ≡ not (rows_sound o.after)

abbrev pub OnlyRowsChange : Type 0
OnlyRowsChange = (t : Tables) (bytes : List ℕ) → SoundButRows t (apply_spec t bytes)
