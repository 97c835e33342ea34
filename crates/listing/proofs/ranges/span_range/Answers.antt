use mathlib.Core.Path.{refl, ◌∙◌}
use mathlib.Core.List.{[]}
use native.Mathlib.Omega.{arith}
use Rattle.arith.proofs.Tests.{asked_true, asked_false}
use Rattle.listing_words.specs.Fields.{span_range, span_of}
use Rattle.listing.proofs.SpanDays.{some_day, first_year_in}
use Rattle.listing.proofs.ranges.span_range.Goals as goal

pub returns-then-not-is_first_year_sound : goal.returns-then-not-is_first_year_sound
unfolding span_range
returns-then-not-is_first_year_sound c = c.range.ensures ∙ rw (asked_false c.is_first_year_sound.ensures c.if-not-is_first_year_sound.true) refl

pub span_of-span-requires : goal.span_of-span-requires
span_of-span-requires c = let e = asked_true c.is_first_year_sound.ensures c.if-not-is_first_year_sound.false in first_year_in e

pub overflow_sub-span : goal.overflow_sub-span
overflow_sub-span c = omega (arith, (c.span_of-span.ensures []).ends, some_day (span_of c.args.first_year))

pub returns : goal.returns
unfolding span_range
returns c = c.range-2.ensures ∙ rw (
  asked_true c.is_first_year_sound.ensures
      c.if-not-is_first_year_sound.false,
  (c.span_of-span.ensures []).starts,
  (c.span_of-span.ensures []).ends,
) refl
