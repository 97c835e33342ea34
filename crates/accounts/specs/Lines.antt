-- The lines of an accepted record are in range. Of a refused one there are none.
use Rattle.std.specs.Prelude.{ℕ, ◌≤◌, ◌<◌, ◌≡◌, nat_abs, length, take}
use mathlib.Core.List.{List, flat_map}
use Rattle.arith.specs.Lists.{All}
use Rattle.rules.specs.Ranges.{contract_count, most_price}
use Rattle.rules.specs.Answers.{Outcome}
use Rattle.rules.specs.Ledger.{Tables, Line, line_places, members}
use Rattle.rules.specs.Refusals.{apply_spec}
use Rattle.rules.specs.Accounts.{lines_of}

-- A line of a ledger of n members: its lots are not 0.
pub record SoundLine (n : ℕ) (l : Line) : Type 0 where
  pub member< : l.member < n
  pub contract< : l.contract < contract_count
  pub lots≥ : 1 ≤ nat_abs l.lots
  pub price≥ : 1 ≤ l.price
  pub price≤ : l.price ≤ most_price

-- Each line is sound, and the line table begins with their places: none is negative but lots sold.
abbrev pub LinesSound : Tables → Outcome Tables → Type 0
LinesSound t o =
    let ls = lines_of o.answer o.after.lines in
    All (SoundLine (members t)) ls × (take (length (flat_map line_places ls)) o.after.lines ≡ flat_map line_places ls)

-- For all tables and bytes.
abbrev pub EveryLineSound : Type 0
EveryLineSound = (t : Tables) (bytes : List ℕ) → LinesSound t (apply_spec t bytes)
