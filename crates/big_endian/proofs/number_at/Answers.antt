use Rattle.rules.specs.Fields.{number_at}
use Rattle.big_endian.proofs.Widths.{is_four}
use Rattle.big_endian.proofs.number_at.Goals as goal

pub returns-in-1 : goal.returns-in-1
unfolding number_at
returns-in-1 c = rw c.in-1.is c.u8_at.ensures.0

pub returns-in-2 : goal.returns-in-2
unfolding number_at
returns-in-2 c = rw c.in-2.is c.u16_at.ensures.0

pub returns-in_default : goal.returns-in_default
unfolding number_at
returns-in_default c = rw (is_four c.requires.0 c.in_default.in_default-own.rest.0.1 c.in_default.in_default-own.rest.1) c.u32_at.ensures.0
