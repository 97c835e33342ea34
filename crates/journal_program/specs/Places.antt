-- Where the program stands.
use Rattle.std.specs.Prelude.{ℕ, ◌*◌, ◌≤◌, ◌≡◌, Result, Ok, Err}
use Rattle.journal.specs.Stages.{Counts}
use Rattle.streams.specs.declared.ending.Ending.{Ending}
use Rattle.streams.specs.Windows.{Within}
use Rattle.journal_program.specs.declared.shell.Place.{Place}

-- How long the buffers for input and output are.
abbrev pub buffer_length : ℕ
buffer_length = 65536

-- Turns are counted up to here.
abbrev pub most_turns : ℕ
most_turns = 70368744177664

-- Its places lie within the buffers, and each turn counts no more records than a buffer has bytes.
pub record Stands (p : Place) : Type 0 where
  pub within : Within buffer_length buffer_length p.window
  pub counts : Counts p.stage (buffer_length * p.turns)
  pub few : p.turns ≤ most_turns

abbrev pub next_stands : ℕ → Result Place Ending → Type 0
next_stands turns (Ok p) = Stands p × (p.turns ≡ turns)
next_stands turns (Err ending) = Unit {0}
