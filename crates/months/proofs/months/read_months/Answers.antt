use Prim.Native.Nat.{◌+◌}
use native.Mathlib.Omega.{arith}
use lib.ListN.{length, length-set}
use Rattle.arith.proofs.Columns.{mapped_next, mapped_end, written_next, written_end}
use Rattle.rules.specs.Days.{month_start}
use Rattle.months.proofs.months.read_months.Goals as goal

pub loop-i-preserved : goal.loop-i-preserved
loop-i-preserved c =
    let a = c.args in
    let l = c.loop-i in (
      simp length-set l.invariant.0,
      rw c.month_start.ensures
          (written_next l.out l.i _ _ _ (omega arith) (rw (mapped_next (length a.out.now) l.i (λ j. month_start (a.first + j)) (omega arith)) at l.invariant.1)),
    )

pub returns : goal.returns
returns c = written_end c.loop-i.out c.loop-i.i _ _ (omega arith) (mapped_end _ c.loop-i.i _ (omega arith)) c.loop-i.invariant.1
