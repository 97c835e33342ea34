-- The six years of a ledger lie in the table of months.
use Rattle.std.specs.Prelude.{ℕ, ◌≤◌}
use Rattle.rules.specs.Ranges.{least_first_year, most_first_year}

abbrev pub FirstYear : ℕ → Type 0
FirstYear y = (least_first_year ≤ y) × (y ≤ most_first_year)
