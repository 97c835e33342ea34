-- What a sound first year, a sound calendar and a day in its span give a caller. Assumes nothing.
use Prim.Native.Nat.{ℕ}
use mathlib.Core.Path.{◌≡◌, refl, ◌∙◌}
use mathlib.Core.Bool.{Bool, true, false, ◌&&◌}
use lib.Dec.{leb}
use borrow.Author.Tests.{leb-true}
use Rattle.arith.proofs.Tests.{and_left, and_right}
use Rattle.rules.specs.Ranges.{least_first_year, most_first_year}
use Rattle.rules.specs.Days.{Calendar, business_day}
use Rattle.rules.specs.Header.{first_year_sound, calendar_sound, day_sound}
use Rattle.months.specs.Bounds.{FirstYear}
use Rattle.months.specs.declared.months.Span.{Span}
use Rattle.months.specs.Spans.{IsSpan, lies_in}
use Rattle.months.proofs.Starts.{lies_in_lem}

pub first_year_holds : (y : ℕ) → first_year_sound y ≡ true → FirstYear y
first_year_holds y e =
    (leb-true least_first_year y (and_left (leb least_first_year y) (leb y most_first_year) e), leb-true y most_first_year (and_right (leb least_first_year y) (leb y most_first_year) e))

module _ (k : Calendar) where
  pub year_unsound : first_year_sound k.first_year ≡ false → calendar_sound k ≡ false
  unfolding calendar_sound
  year_unsound e = rw e refl

  pub day_in_span : (s : Span) (d : ℕ) (r : Bool) → IsSpan s k → r ≡ lies_in s d && business_day k d → r ≡ day_sound k d
  unfolding day_sound
  day_in_span s d r i e = e ∙ rw (lies_in_lem k s d i)
