use mathlib.Core.Path.{refl}
use native.Mathlib.Omega.{arith}
use Rattle.listing_numbers.proofs.Writers.{next, exactly, within_room}
use Rattle.listing_numbers.specs.Numbers.{quarter_text}
use Rattle.listing_numbers.proofs.in_words.put_quarter.Goals as goal

pub returns : goal.returns
unfolding quarter_text
returns c =
    within_room 3 _ (next (next (exactly 1 _ c.put_byte-i.ensures refl)
    (exactly 1 _ c.put_byte-i-2.ensures refl) (omega arith)) (exactly 1 _ c.put_byte.ensures refl)
    (omega arith)) refl (omega arith)
