use Rattle.std.proofs.Common.{leb, get_or, pos, nat_abs, refl, arith}
use Rattle.arith.proofs.Signed.{back_mag}
use Rattle.arith.proofs.Scans.{every_next, every_end}
use Rattle.damage.proofs.rows.are_within.Goals as goal

pub loop-x-init : goal.loop-x-init
loop-x-init c = refl

pub loop-x-preserved : goal.loop-x-preserved
loop-x-preserved c =
    let a = c.args in
    let x = get_or a.rows.now c.loop-x.x-index (pos 0) in
    rw (c.unsigned_abs.ensures.value, back_mag x (omega arith))
    (every_next (λ z. leb (nat_abs z) a.bound) a.rows.now (pos 0) c.loop-x.x-index c.loop-x.ok c.loop-x.invariant c.loop-x-test.true)

pub returns : goal.returns
returns c = let a = c.args in every_end (λ z. leb (nat_abs z) a.bound) a.rows.now (pos 0) c.loop-x.x-index c.loop-x.ok c.loop-x.invariant c.loop-x-test.false
