use native.Mathlib.Omega.{arith}
use lib.ListN.{length-set}
use Rattle.arith.proofs.Columns.{written_next, written_end}
use Rattle.close_out_weights.proofs.Still.{still_after}
use Rattle.close_out.proofs.StepColumns.{less_end, remaining_next}
use Rattle.close_out.proofs.netting.subtract.Goals as goal

pub loop-i-preserved : goal.loop-i-preserved
loop-i-preserved c =
    let pre = c.requires in
    let a = c.args in (
      omega arith,
      simp length-set c.loop-i.invariant.1,
      still_after c.loop-i.held a.held.now c.loop-i.i c.loop-i.invariant.2 _,
      written_next c.loop-i.held c.loop-i.i _ _ _ (omega arith)
          (rw (remaining_next c.loop-i.held a.held.now c.loop-i.i c.loop-i.invariant.2 a.given.now (omega arith) (omega (arith, pre.0))) at c.loop-i.invariant.3),
    )

pub returns : goal.returns
returns c = written_end c.loop-i.held c.loop-i.i _ _ (omega arith) (less_end _ _ c.loop-i.i (omega arith)) c.loop-i.invariant.3
