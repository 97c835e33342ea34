use mathlib.Core.Path.{refl}
use native.Mathlib.Omega.{arith}
use Rattle.listing_numbers.proofs.Writers.{next, exactly, within_room}
use Rattle.listing_numbers.specs.Numbers.{two_digits}
use Rattle.listing_numbers.proofs.in_words.put_two_digits.Goals as goal

pub returns : goal.returns
unfolding two_digits
returns c = within_room 2 _ (next (exactly 1 _ c.put_byte-next.ensures refl) (exactly 1 _ c.put_byte.ensures refl)
    (omega arith)) refl (omega arith)
