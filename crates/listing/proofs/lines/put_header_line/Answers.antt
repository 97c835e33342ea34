use mathlib.Core.Path.{refl, sym}
use native.Mathlib.Omega.{arith}
use Rattle.listing_numbers.proofs.Writers.{next, exactly, within_room}
use Rattle.listing_words.specs.Words.{header_line}
use Rattle.listing.proofs.FieldPlaces.{header_length_lem}
use Rattle.listing.proofs.lines.put_header_line.Goals as goal

pub put_fields-listed-requires : goal.put_fields-listed-requires
put_fields-listed-requires c = record { count_value = (sym (header_length_lem _ _), omega arith, omega arith); first_year_bound = (omega arith, omega arith, omega arith) }

pub put_byte-requires : goal.put_byte-requires
put_byte-requires c = omega (arith, c.put_fields-listed.ensures.written.short, c.put_fields-listed.auto.out)

pub returns : goal.returns
unfolding header_line
returns c =
    rw (
      ← c.u8_or_zero-members.ensures.0,
      ←
          c.u8_or_zero-holidays.ensures.0,
    )
    (record {
      written = within_room 62000 _ (next c.put_fields-listed.ensures.written (exactly 1 _ c.put_byte.ensures refl)
          (omega arith)) refl (omega arith);
      sound = c.put_fields-listed.ensures.sound;
    })
