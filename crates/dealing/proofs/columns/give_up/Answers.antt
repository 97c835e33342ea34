use native.Mathlib.Omega.{arith}
use lib.ListN.{length-set}
use Rattle.arith.proofs.Columns.{written_next, written_end}
use Rattle.rules.proofs.Netting.{given_next, given_end}
use Rattle.dealing.proofs.columns.give_up.Goals as goal

pub loop-i-preserved : goal.loop-i-preserved
loop-i-preserved c = let a = c.args in
    let l = c.loop-i in
    let rest = given_next l.remaining a.held.now l.i (omega arith) in (
      omega arith,
      simp length-set l.invariant.1,
      rw c.min-share.ensures
          (written_next l.given l.i _ _ _ (omega arith) (rw rest at l.invariant.2)),
    )

pub returns : goal.returns
returns c = let l = c.loop-i in
    written_end l.given l.i _ _ (omega arith) (given_end l.remaining _ l.i (omega arith)) l.invariant.2
