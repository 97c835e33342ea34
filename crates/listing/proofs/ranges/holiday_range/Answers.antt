use mathlib.Core.Path.{refl, ◌∙◌}
use borrow.Author.Tests.{le-leb, lt-leb}
use Rattle.listing_words.specs.Fields.{holiday_range}
use Rattle.listing.proofs.ranges.holiday_range.Goals as goal

pub returns-then-place-le-FIRST_HOLIDAY_BYTE : goal.returns-then-place-le-FIRST_HOLIDAY_BYTE
unfolding holiday_range
returns-then-place-le-FIRST_HOLIDAY_BYTE c = rw (le-leb _ _ c.if-place-le-FIRST_HOLIDAY_BYTE.true) (c.span_range-span.ensures ∙ rw c.u16_or_zero.ensures.0 refl)

pub returns : goal.returns
unfolding holiday_range
returns c = rw (lt-leb _ _ c.if-place-le-FIRST_HOLIDAY_BYTE.false)
    (c.range.ensures ∙ rw (c.u16_or_zero-2.ensures.0, c.span_range-span.ensures, c.u16_or_zero.ensures.0) refl)
