use mathlib.Core.Path.{refl}
use native.Mathlib.Omega.{arith}
use Rattle.listing_numbers.proofs.Writers.{next, exactly, within_room}
use Rattle.listing_numbers.specs.Numbers.{month_text}
use Rattle.listing_numbers.proofs.in_words.put_month.Goals as goal

pub returns : goal.returns
unfolding month_text
returns c = within_room 3 _ (next (exactly 1 _ c.put_byte-i.ensures refl) c.put_two_digits.ensures
    (omega arith)) refl (omega arith)
