use lib.ListN.{get_or}
use lib.IntN.{pos}
use Rattle.rules.specs.Ledger.{row_width}
use Rattle.arith.proofs.Signed.{back}
use mathlib.Core.Path.{refl}
use Prim.Native.Nat.{◌+◌, ◌*◌}
use native.Mathlib.Omega.{arith}
use Rattle.submit_causes.proofs.Signs.{opposite_ok, opposite_is}
use Rattle.arith.proofs.Sizes.{abs_neg}
use Rattle.submit_causes.proofs.position.position.Goals as goal

pub overflow_sub-result : goal.overflow_sub-result
overflow_sub-result c = let a = c.args in opposite_ok (get_or a.lots.now (a.contract * row_width + a.member) (pos 0)) (omega (arith, c.requires.pos_bound))

pub returns-in-Buy : goal.returns-in-Buy
returns-in-Buy c =
    let a = c.args in
    let z = get_or a.lots.now (a.contract * row_width + a.member) (pos 0) in
    rw (c.in-Buy.is, back z (omega (arith, c.requires.pos_bound))) (refl, c.requires.pos_bound)

pub returns-in-Sell : goal.returns-in-Sell
returns-in-Sell c =
    let a = c.args in
    let z = get_or a.lots.now (a.contract * row_width + a.member) (pos 0) in
    rw (c.in-Sell.is, opposite_is z (omega (arith, c.requires.pos_bound))) (refl, omega (arith, abs_neg z, c.requires.pos_bound))
