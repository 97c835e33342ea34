-- A span has a day, and a sound first year is in its bounds. Assumes nothing.
use Prim.Native.Nat.{ℕ, ◌+◌, ◌≤◌}
use native.Mathlib.Omega.{arith}
use mathlib.Core.Bool.{true}
use mathlib.Core.Path.{◌≡◌}
use borrow.Author.Tests.{leb-true}
use lib.Dec.{leb}
use Rattle.arith.proofs.Tests.{and_left, and_right}
use Rattle.months.specs.Bounds.{FirstYear}
use Rattle.rules.specs.Header.{first_year_sound}
use Rattle.rules.specs.Ranges.{least_first_year, most_first_year}
use Rattle.rules.specs.Days.{Calendar, first_month, day_after_span}
use Rattle.rules.proofs.CalendarLaws.{month_lt}

pub some_day : (k : Calendar) → 1 ≤ day_after_span k
unfolding day_after_span
some_day k = omega (arith, month_lt (first_month k) (first_month k + 72) (omega arith))

pub first_year_in : {y : ℕ} → first_year_sound y ≡ true → FirstYear y
first_year_in {y} e = (
  leb-true least_first_year y (and_left (leb least_first_year y) (leb y most_first_year) e),
  leb-true y most_first_year
      (and_right (leb least_first_year y) (leb y most_first_year) e),
)
