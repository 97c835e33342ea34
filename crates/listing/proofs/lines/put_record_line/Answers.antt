use mathlib.Core.Path.{refl}
use native.Mathlib.Omega.{arith}
use Rattle.listing_numbers.proofs.Writers.{next, exactly, digits, decimal_room, within_room}
use mathlib.Core.List.{append_assoc}
use Rattle.listing_words.specs.Fields.{fields_in}
use Rattle.listing_words.specs.Words.{record_line}
use Rattle.listing.proofs.lines.put_record_line.Goals as goal

pub put_decimal-i-requires : goal.put_decimal-i-requires
put_decimal-i-requires c = decimal_room _ _ _ c.ranges.number.fits (omega arith)

pub put_fields-listed-requires : goal.put_fields-listed-requires
unfolding fields_in
put_fields-listed-requires c =
    let w = digits _ c.ranges.number.fits c.put_decimal-i.ensures in
    record { count_value = (rw c.count_of_kind-count.ensures.0 (omega arith), omega (arith, w.short), omega arith); first_year_bound = (omega arith, omega arith, omega arith) }

pub put_byte-requires : goal.put_byte-requires
put_byte-requires c =
    let w = digits _ c.ranges.number.fits
    c.put_decimal-i.ensures in
    omega (arith, w.short, c.put_fields-listed.ensures.written.short, c.put_fields-listed.auto.out)

pub returns : goal.returns
unfolding record_line
returns c =
    let w = digits _ c.ranges.number.fits
    c.put_decimal-i.ensures in
    rw (
      ← c.u8_or_zero-kind.ensures.0,
      ←
          c.u8_or_zero-legs.ensures.0,
    )
    (record {
      written = within_room 62000 _ (next (next w c.put_fields-listed.ensures.written (omega arith))
          (exactly 1 _ c.put_byte.ensures refl)
          (omega (arith, c.count_of_kind-count.ensures.1))) (simp append_assoc)
          (omega (arith, c.count_of_kind-count.ensures.1));
      sound = c.put_fields-listed.ensures.sound;
    })
