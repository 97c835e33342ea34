-- The places after a read, a write and a turn. Assumes nothing.
use Prim.Native.Nat.{ℕ, ◌+◌, ◌-◌, ◌*◌, ◌^◌, ◌<◌, ◌≤◌}
use mathlib.Core.List.{List}
use mathlib.Core.Path.{◌≡◌}
use native.Mathlib.Omega.{arith}
use lib.ListN.{length, take, drop}
use Rattle.journal.specs.declared.stage.Stage.{Stage}
use Rattle.journal.specs.declared.stage.Stage.TheVariants.{Header, Records, Read, Stopped, ReadToEnd, RecordUnsound, HeaderUnsound}
use Rattle.journal.specs.Stages.{Counts}
use Rattle.streams.proofs.Reading.{part_length}
use Rattle.std.specs.Prelude.{Result, Ok}
use Rattle.streams.specs.declared.ending.Ending.{Ending}
use Rattle.journal_program.specs.declared.shell.Place.{Place}
use Rattle.journal_program.specs.Places.{buffer_length, most_turns, Stands, next_stands}

pub going_stands : (turns : ℕ) (x : Result Place Ending) (p : Place) → next_stands turns x → x ≡ Ok p → Stands p × (p.turns ≡ turns)
going_stands turns x p h q = rw q at h

-- More may be counted.
pub counts_most : (stage : Stage) (most more : ℕ) → most ≤ more → Counts stage most → Counts stage more
counts_most Header most more h c = tt
counts_most (Records n k) most more h c = (c.0, omega arith)
counts_most (Read n k) most more h c = (c.0, omega arith)
counts_most (Stopped n k) most more h c = (c.0, omega arith)
counts_most ReadToEnd most more h c = tt
counts_most RecordUnsound most more h c = tt
counts_most HeaderUnsound most more h c = tt

-- The part of the buffer that a turn runs, and what it leaves of it.
module _ (p : Place) (l : List ℕ) (s : Stands p) (few : p.turns < most_turns) where
  abbrev part : List ℕ
  part = take (p.window.end - p.window.from) (drop p.window.from l)

  pub turn_counts : Counts p.stage (2 ^ 62)
  turn_counts = counts_most p.stage (buffer_length * p.turns) (2 ^ 62) (omega arith) s.counts

  pub turn_bytes : length part < 2 ^ 62
  turn_bytes = omega (arith, part_length p.window l, s.within.inside)

  pub turn_printed : {room : ℕ} → room ≡ buffer_length → p.window.filled ≤ room
  turn_printed h = omega (arith, s.within.printed)

  pub turn_stands : (used end : ℕ) (stage : Stage) {room : ℕ} → room ≡ buffer_length → used ≤ length part → end ≤ room
      → ((most : ℕ) → Counts p.stage most → Counts stage (most + length part))
      → Stands
      (record {
        turns = p.turns + 1;
        window =
            record { from = p.window.from + used; end = p.window.end; is_last = p.window.is_last; filled = end; progress = p.window.progress };
        stage = stage;
      })
  turn_stands used end stage sized h e counts =
      let short = part_length p.window l in
      record {
        within = record { before = omega (arith, s.within.before); inside = s.within.inside; printed = rw sized at e };
        counts =
            counts_most stage (buffer_length * p.turns + length part) (buffer_length * (p.turns + 1)) (omega (arith, s.within.inside))
            (counts (buffer_length * p.turns) s.counts);
        few = omega arith;
      }
