use Prim.Native.Nat.{min}
use mathlib.Core.Path.{refl}
use native.Mathlib.Omega.{arith}
use lib.ListN.{length-set}
use Rattle.arith.proofs.Columns.{map_next, written_next}
use Rattle.dealing.specs.Levels.{at_level}
use Rattle.dealing.proofs.level.fill_to_level.Goals as goal

pub loop-i-init : goal.loop-i-init
unfolding at_level
loop-i-init c = (omega arith, c.requires, refl)

pub loop-i-preserved : goal.loop-i-preserved
loop-i-preserved c = let a = c.args in
    let l = c.loop-i in
    let rest = map_next a.minima.now l.i (min a.level) 0 (omega arith) in
    (omega arith, simp length-set l.invariant.1, rw c.min.ensures (written_next l.received l.i _ _ _ (omega arith) (rw rest at l.invariant.2)))
