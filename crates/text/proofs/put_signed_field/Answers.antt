use mir.Facts.{to_z-of_z}
use Rattle.text.proofs.Writing.{then}
use Rattle.text.proofs.Decimals.{signed_20, as_read}
use native.Mathlib.Omega.{arith}
use Rattle.text.proofs.put_signed_field.Goals as goal

pub put_signed-requires : goal.put_signed-requires
put_signed-requires c =
    rw (to_z-of_z c.ranges.x) (omega (
      arith,
      c.put_byte-digits.ensures.after,
      c.put_byte-digits.auto.out,
      signed_20 c.args.x
          c.ranges.x.sfits,
    ))

pub returns : goal.returns
returns c =
    let p = c.put_byte-digits.ensures in
    let q = as_read c.args.x
    c.ranges.x c.put_signed.ensures in
    let few = signed_20 c.args.x
    c.ranges.x.sfits in
    (then p q (omega arith), omega (arith, p.after, q.after))
