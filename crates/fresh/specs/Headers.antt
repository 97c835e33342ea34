-- A header by its fields.
use Rattle.std.specs.Prelude.{ℕ, List, length}
use Rattle.rules.specs.Header.{Header}

-- Each member has a limit.
abbrev pub header : ℕ → ℕ → List ℕ → List ℕ → Header
header year start holidays limits = record { first_year = year; start_day = start; members = length limits; holidays = holidays; limits = limits }
