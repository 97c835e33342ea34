use mathlib.Core.Path.{refl}
use native.Mathlib.Omega.{arith}
use Rattle.listing_numbers.proofs.Writers.{next, exactly, number, within_room}
use Rattle.listing_words.proofs.Spelled.{worded}
use mathlib.Core.List.{append_assoc}
use Rattle.listing_words.specs.Words.{fault_text}
use Rattle.listing.proofs.lines.put_fault_text.Goals as goal

pub put_word-i-requires : goal.put_word-i-requires
put_word-i-requires c = (
  omega (
    arith,
    c.requires,
    c.put_bytes-i.ensures.after,
    c.put_field-i.ensures.1,
    c.put_byte-i.ensures.after,
  ),
  c.name_of.ensures.fits,
)

pub put_reason-requires : goal.put_reason-requires
put_reason-requires c = omega (
  arith,
  c.requires,
  c.put_bytes-i.ensures.after,
  c.put_field-i.ensures.1,
  c.put_byte-i.ensures.after,
  c.put_word-i.ensures.short,
)

pub returns : goal.returns
unfolding fault_text
returns c =
    let byte = next (next (exactly 6 _
    c.put_bytes-i.ensures
    refl) (number c.put_field-i.ensures)
    (omega (
      arith,
      c.requires,
    ))) (exactly 1 _ c.put_byte-i.ensures refl)
    (omega (
      arith,
      c.requires,
    )) in
    within_room 170 _ (next (next byte (worded c.name_of.ensures
    c.put_word-i.ensures)
    (omega (
      arith,
      c.requires,
    ))) c.put_reason.ensures
    (omega (
      arith,
      c.requires,
    ))) (simp append_assoc) (omega arith)
