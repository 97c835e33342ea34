use mathlib.Core.Path.{refl}
use native.Mathlib.Omega.{arith}
use Rattle.listing_numbers.proofs.Writers.{next, exactly, number, nothing, within_room}
use Rattle.listing_words.specs.Words.{hint}
use Rattle.listing.proofs.lines.put_hint.Goals as goal

pub returns-then-is_within : goal.returns-then-is_within
unfolding hint
returns-then-is_within c = rw (
  ← c.other_way_round-turned.ensures.0,
  ←
      c.is_within.ensures,
  c.if-is_within.true,
) (within_room 45 _ (next (exactly 21 _ c.put_bytes-i.ensures refl) (number c.put_field.ensures)
    (omega arith)) refl (omega arith))

pub returns : goal.returns
unfolding hint
returns c = rw (← c.other_way_round-turned.ensures.0, ← c.is_within.ensures, c.if-is_within.false) (within_room 45 _ (nothing _ _) refl (omega arith))
