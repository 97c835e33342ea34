use mathlib.Core.Path.{refl}
use native.Mathlib.Omega.{arith}
use Rattle.listing_numbers.proofs.Writers.{next, exactly, number, within_room}
use mathlib.Core.List.{append_assoc}
use Rattle.listing_words.specs.Words.{out_of_range}
use Rattle.listing.proofs.lines.put_out_of_range.Goals as goal

pub returns : goal.returns
unfolding out_of_range
returns c =
    let least = next (next (number c.put_field-i.ensures)
    (exactly 7 _ c.put_bytes-i.ensures refl) (omega arith))
    (number c.put_field-i-2.ensures) (omega arith) in
    let most = next (next least (exactly 3 _ c.put_bytes-i-2.ensures refl) (omega arith))
    (number c.put_field-i-3.ensures) (omega arith) in
    within_room 118 _ (next most c.put_hint.ensures (omega arith)) (simp append_assoc) (omega arith)
