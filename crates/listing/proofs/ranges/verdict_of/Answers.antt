use mathlib.Core.Path.{refl}
use borrow.Author.Tests.{lt-ltb, le-ltb}
use Rattle.listing_words.specs.Fields.{verdict_of}
use Rattle.listing.proofs.ranges.verdict_of.Goals as goal

pub returns-then-bytes-place : goal.returns-then-bytes-place
unfolding verdict_of
returns-then-bytes-place c = rw (← c.width_of-size.ensures.0, lt-ltb _ _ c.if-bytes-place.true) refl

pub returns-then-is_within : goal.returns-then-is_within
unfolding verdict_of
returns-then-is_within c = rw (
  ← c.width_of-size.ensures.0,
  le-ltb _ _ c.if-bytes-place.false,
  ←
      c.number_at-number.ensures.0,
  ← c.range_of.ensures,
  ←
      c.is_within.ensures,
  c.if-is_within.true,
  ← c.quantity_of.ensures,
) c.day_verdict.ensures

pub returns : goal.returns
unfolding verdict_of
returns c = rw (
  ← c.width_of-size.ensures.0,
  le-ltb _ _ c.if-bytes-place.false,
  ←
      c.number_at-number.ensures.0,
  ← c.range_of.ensures,
  ← c.is_within.ensures,
  c.if-is_within.false,
) refl
