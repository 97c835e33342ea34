use Prim.Native.Nat.{◌*◌, ◌<◌}
use mathlib.Core.Path.{◌∙◌}
use native.Mathlib.Omega.{arith}
use lib.ListN.{get_or, length-set}
use Rattle.arith.proofs.Columns.{map_next, written_next}
use Rattle.rules.specs.Default.{minimum, minimums}
use Rattle.dealing.proofs.Ceilings.{ceiling_is}
use Rattle.dealing.proofs.minimums.find_minimums.Goals as goal

pub loop-i-init : goal.loop-i-init
unfolding minimums
loop-i-init c = (omega arith, c.requires.lots_le_most_lots_run.2, rw c.sum_of-total.ensures)

pub loop-i-preserved : goal.loop-i-preserved
unfolding minimum
loop-i-preserved c = let a = c.args in
    let l = c.loop-i in
    let rest = map_next a.weights.now l.i (minimum a.lots c.sum_of-total.result) 0 (omega arith) in
    let some : 0 < c.sum_of-total.result = omega (arith, c.sum_of-total.ensures) in
    let ceiling = c.div_ceil.ensures ∙ ceiling_is (a.lots * get_or a.weights.now l.i 0) c.sum_of-total.result some in
    (omega arith, simp length-set l.invariant.1, rw ceiling (written_next l.minima l.i _ _ _ (omega arith) (rw rest at l.invariant.2)))
