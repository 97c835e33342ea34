use Prim.Native.Nat.{ℕ, ◌+◌}
use mathlib.Core.Path.{◌≡◌, ◌∙◌}
use mathlib.Core.Bool.{cond}
use native.Mathlib.Omega.{arith}
use lib.Dec.{eqb}
use lib.ListN.{get_or, length-set}
use borrow.Author.Tests.{eq-eqb, ne_eqb}
use Rattle.arith.proofs.Columns.{mapped_next, mapped_end, written_next, written_end}
use Rattle.rules.specs.Ledger.{marks_from}
use Rattle.tables.specs.Fit.{members_in}
use Rattle.close_out_weights.proofs.weights.write_weights.Goals as goal
use Rattle.close_out_weights.proofs.weights.write_weights.Goals.{then-head-i-eq-DEFAULT_MARK, else-head-i-eq-DEFAULT_MARK}

pub loop-i-preserved : goal.loop-i-preserved
loop-i-preserved c = let a = c.args in
    let f : ℕ → ℕ = λ m. cond (eqb (get_or a.head.now (marks_from + m) 0) 1) 0 (get_or a.sums.now m 0) in
    let e : c.if-head-i-eq-DEFAULT_MARK.weight ≡ f c.loop-i.i = (elim c.if-head-i-eq-DEFAULT_MARK.branch [
      | then-head-i-eq-DEFAULT_MARK w ↦ w.weight-is ∙ rw (eq-eqb _ _ w.if-head-i-eq-DEFAULT_MARK.true)
      | else-head-i-eq-DEFAULT_MARK w ↦ w.weight-is ∙ rw (ne_eqb _ _ w.if-head-i-eq-DEFAULT_MARK.false)
    ]) in
    (omega arith, simp length-set c.loop-i.invariant.1, rw e (written_next c.loop-i.weights c.loop-i.i _ _ _ (omega arith) (rw (mapped_next (members_in a.head.now) c.loop-i.i f (omega arith)) at c.loop-i.invariant.2)))

pub returns : goal.returns
returns c = written_end c.loop-i.weights c.loop-i.i _ _ (omega arith) (mapped_end _ c.loop-i.i _ (omega arith)) c.loop-i.invariant.2
