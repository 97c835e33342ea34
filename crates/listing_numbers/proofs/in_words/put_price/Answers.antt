use mathlib.Core.Path.{refl}
use native.Mathlib.Omega.{arith}
use Rattle.listing_numbers.proofs.Writers.{next, exactly, number, within_room}
use mathlib.Core.List.{append_assoc}
use Rattle.listing_numbers.specs.Numbers.{price_text}
use Rattle.listing_numbers.proofs.in_words.put_price.Goals as goal

pub returns : goal.returns
unfolding price_text
returns c =
    within_room 24 _ (next (next (number c.put_field-i.ensures)
    (exactly 1 _ c.put_byte-i.ensures refl) (omega arith)) c.put_two_digits.ensures (omega arith))
    (simp append_assoc) (omega arith)
