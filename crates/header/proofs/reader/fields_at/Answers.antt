use native.Mathlib.Omega.{arith}
use Rattle.big_endian.specs.Width.{two, four}
use Rattle.rules.specs.Fields.{number_at}
use Rattle.rules.specs.Header.{header_of, header_length, u16s_at, u32s_at}
use Rattle.header.proofs.Headers.{length_u16s}
use Rattle.header.proofs.reader.fields_at.Goals as goal

pub column_at-requires : goal.column_at-requires
unfolding header_length
column_at-requires c = (omega arith, (two, omega arith, omega arith))

pub column_at-requires-2 : goal.column_at-requires-2
unfolding header_length
column_at-requires-2 c = (omega arith, (four, omega arith, omega arith))

pub returns : goal.returns
unfolding header_of u16s_at u32s_at number_at
returns c =
    rw (c.u16_at.ensures.0, c.u16_at-2.ensures.0, c.column_at.ensures, c.column_at-2.ensures, c.requires.first_holiday_byte_in_bounds.1, c.requires.first_holiday_byte_in_bounds.2, length_u16s)
