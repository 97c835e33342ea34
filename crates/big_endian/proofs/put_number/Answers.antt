use Rattle.rules.specs.Fields.{number_bytes}
use Rattle.big_endian.proofs.Widths.{is_four}
use Rattle.big_endian.proofs.put_number.Goals as goal

pub returns-in-1 : goal.returns-in-1
unfolding number_bytes
returns-in-1 c = rw c.in-1.is c.put_u8.ensures

pub returns-in-2 : goal.returns-in-2
unfolding number_bytes
returns-in-2 c = rw c.in-2.is c.put_u16.ensures

pub returns-in_default : goal.returns-in_default
unfolding number_bytes
returns-in_default c = let four = is_four c.requires.0 c.in_default.in_default-own.rest.0.1 c.in_default.in_default-own.rest.1 in rw four c.put_u32.ensures
