use native.Mathlib.Omega.{arith}
use Rattle.text.proofs.Decimals.{room_below, wrote_below, room_other, wrote_other}
use Rattle.text.proofs.put_signed.Goals as goal

pub put_byte-digits-requires : goal.put_byte-digits-requires
put_byte-digits-requires c =
    omega
    (arith, room_below _ c.ranges.x _ c.unsigned_abs-n.ensures.value _ c.if-x-lt0.true c.requires)

pub put_decimal-requires : goal.put_decimal-requires
put_decimal-requires c =
    omega (
      arith,
      c.put_byte-digits.ensures.after,
      c.put_byte-digits.auto.out,
      room_below _
          c.ranges.x _ c.unsigned_abs-n.ensures.value _
          c.if-x-lt0.true c.requires,
    )

pub returns-then-x-lt0 : goal.returns-then-x-lt0
returns-then-x-lt0 c =
    wrote_below _ c.ranges.x _
    c.unsigned_abs-n.ensures.value _
    c.if-x-lt0.true
    c.requires
    c.put_byte-digits.ensures c.put_decimal.ensures

pub put_decimal-requires-2 : goal.put_decimal-requires-2
put_decimal-requires-2 c =
    room_other _ c.ranges.x _ c.unsigned_abs-n.ensures.value _ c.if-x-lt0.false
    c.requires

pub returns : goal.returns
returns c =
    wrote_other _ c.ranges.x _ c.unsigned_abs-n.ensures.value _
    c.if-x-lt0.false c.put_decimal-2.ensures
