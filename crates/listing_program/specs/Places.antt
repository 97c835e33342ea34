-- Where the program stands.
use Rattle.std.specs.Prelude.{ℕ, ◌+◌, ◌*◌, ◌≤◌, List, ◌≡◌, Result, Ok, Err}
use Rattle.rules.specs.Header.{header_length, header_of}
use Rattle.streams.specs.declared.ending.Ending.{Ending}
use Rattle.streams.specs.declared.window.Window.{Window}
use Rattle.streams.specs.Windows.{Within}
use Rattle.listing_program.specs.declared.shell.Ledger.{Ledger}
use Rattle.listing_program.specs.declared.shell.Place.{Place}

-- How long the buffers are.
abbrev pub input_length : ℕ
input_length = 65536

abbrev pub output_length : ℕ
output_length = 131072

-- Turns are counted up to here.
abbrev pub most_turns : ℕ
most_turns = 70368744177664

-- The largest number that two bytes hold.
abbrev pub most_in_two_bytes : ℕ
most_in_two_bytes = 65535

-- Members, first year and size of the header that the bytes begin with.
pub record LedgerOf (s : List ℕ) (r : Ledger) : Type 0 where
  pub members : r.members ≡ (header_of s).members
  pub year : r.first_year ≡ (header_of s).first_year
  pub size : r.header_size ≡ header_length s
  pub year_fits : r.first_year ≤ most_in_two_bytes
  pub size_fits : r.header_size ≤ input_length

-- Its places lie within the buffers, and each turn lists at most one record, which the input holds.
pub record Stands (p : Place) : Type 0 where
  pub within : Within input_length output_length p.window
  pub counted : p.records ≤ p.turns
  pub passed : p.base ≤ input_length * (p.turns + 1)
  pub few : p.turns ≤ most_turns

abbrev pub next_stands : ℕ → Result Place Ending → Type 0
next_stands turns (Ok p) = Stands p × (p.turns ≡ turns)
next_stands turns (Err ending) = Unit {0}

abbrev pub moved_within : Result Window Ending → Type 0
moved_within (Ok w) = Within input_length output_length w
moved_within (Err ending) = Unit {0}
