use mathlib.Core.Path.{refl}
use native.Mathlib.Omega.{arith}
use Rattle.listing_numbers.proofs.Writers.{next, exactly, within_room}
use mathlib.Core.List.{append_assoc}
use Rattle.listing_numbers.specs.Numbers.{time_text}
use Rattle.listing_numbers.proofs.in_words.put_time.Goals as goal

pub returns : goal.returns
unfolding time_text
returns c =
    let hours = next (exactly 1 _ c.put_byte-i.ensures refl)
    c.put_two_digits-i.ensures
    (omega arith) in
    let minutes = next (next hours (exactly 1 _
    c.put_byte-i-2.ensures refl) (omega arith))
    c.put_two_digits-i-2.ensures (omega arith) in
    within_room 9 _ (next (next minutes (exactly 1 _ c.put_byte-i-3.ensures refl) (omega arith))
    c.put_two_digits.ensures (omega arith)) (simp append_assoc) (omega arith)
