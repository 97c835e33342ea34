-- The first days of the span's months, read from their column. Assumes nothing.
use Prim.Native.Nat.{ℕ, ◌+◌, ◌≤◌}
use mathlib.Core.Path.{◌≡◌, ◌∙◌}
use mathlib.Core.Bool.{true}
use mathlib.Core.List.{List, map}
use native.Mathlib.Omega.{arith}
use native.Mathlib.Nat.{zero-add}
use lib.Dec.{leb, ltb}
use lib.ListN.{length, get_or}
use borrow.Author.Tests.{ltb-true}
use Rattle.arith.specs.Lists.{from}
use Rattle.arith.proofs.Tests.{and_right}
use Rattle.arith.proofs.Columns.{mapped_at, mapped_length}
use Rattle.rules.specs.Ranges.{months_in_span, most_first_year}
use Rattle.rules.specs.Days.{Calendar, month_start, first_month, span_start, day_after_span, in_span}
use Rattle.rules.proofs.CalendarLaws.{month_le, last_month_lem}
use Rattle.months.specs.declared.months.Span.{Span}
use Rattle.months.specs.Spans.{IsSpan, lies_in, starts_of, last_month_start}

module _ (k : Calendar) where
  pub starts_length : length (starts_of k) ≡ months_in_span + 1
  unfolding starts_of
  starts_length = mapped_length (λ i. month_start (first_month k + i)) 0 (months_in_span + 1)

  pub start_read : (i : ℕ) → i ≤ months_in_span → get_or (starts_of k) i 0 ≡ month_start (first_month k + i)
  unfolding starts_of
  start_read i h = mapped_at (λ j. month_start (first_month k + j)) 0 0 (months_in_span + 1) i (omega arith) ∙ rw (zero-add i)

  pub starts_made : (first : ℕ) (starts : List ℕ) → starts ≡ map (λ i. month_start (first + i)) (from 0 (months_in_span + 1)) → first ≡ first_month k → starts ≡ starts_of k
  unfolding starts_of
  starts_made first starts e m = rw m at e

  pub span_end : get_or (starts_of k) months_in_span 0 ≡ day_after_span k
  unfolding day_after_span
  span_end = start_read months_in_span (omega arith)

  pub span_most : k.first_year ≤ most_first_year → day_after_span k ≤ last_month_start
  unfolding day_after_span
  span_most h = omega (arith, month_le (first_month k + months_in_span) 960 (omega arith), last_month_lem)

  pub lies_in_lem : (s : Span) (d : ℕ) → IsSpan s k → lies_in s d ≡ in_span k d
  unfolding in_span
  lies_in_lem s d i = rw (i.starts, i.ends)

  -- A day of the span lies in the table.
  pub day_most : (d : ℕ) → k.first_year ≤ most_first_year → in_span k d ≡ true → d ≤ last_month_start
  unfolding in_span
  day_most d h e = omega (arith, span_most h, ltb-true d (day_after_span k) (and_right (leb (span_start k) d) (ltb d (day_after_span k)) e))

  pub none_earlier : (i j : ℕ) → i ≤ j → j ≤ months_in_span → get_or (starts_of k) i 0 ≤ get_or (starts_of k) j 0
  none_earlier i j l h = rw (start_read i (omega arith), start_read j h) (month_le _ _ (omega arith))
