use Rattle.std.proofs.Common.{arith}
use Rattle.text.proofs.Decimals.{room_small, room_more, wrote_small, wrote_more}
use Rattle.text.proofs.+put_decimal.Goals as goal

pub put_byte-requires : goal.put_byte-requires
put_byte-requires t c = room_small _ _ c.if-n-lt10.true c.requires

pub returns-then-n-lt10 : goal.returns-then-n-lt10
returns-then-n-lt10 t c = wrote_small _ _ c.if-n-lt10.true c.put_byte.ensures

pub put_decimal-end-requires : goal.put_decimal-end-requires
put_decimal-end-requires t c = (rw (← c.decreases) (omega arith), omega (arith, room_more _ _ c.if-n-lt10.false c.requires))

pub put_byte-requires-2 : goal.put_byte-requires-2
put_byte-requires-2 t c = omega (arith, c.put_decimal-end.ensures.after, c.put_decimal-end.auto.out, room_more _ _ c.if-n-lt10.false c.requires)

pub returns : goal.returns
returns t c = wrote_more _ _ c.if-n-lt10.false c.requires c.put_decimal-end.ensures c.put_byte-2.ensures
