use native.Mathlib.Omega.{arith}
use Rattle.text.proofs.Writing.{then}
use Rattle.text.proofs.Decimals.{decimal_20}
use Rattle.text.proofs.put_field.Goals as goal

pub put_decimal-requires : goal.put_decimal-requires
put_decimal-requires c =
    omega (
      arith,
      c.put_byte-digits.ensures.after,
      c.put_byte-digits.auto.out,
      decimal_20 _
          c.ranges.n.fits,
    )

pub returns : goal.returns
returns c =
    let p = c.put_byte-digits.ensures in
    let q = c.put_decimal.ensures in
    let few = decimal_20 _ c.ranges.n.fits in
    (then p q (omega arith), omega (arith, p.after, q.after))
