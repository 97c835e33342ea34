use Prim.Native.Nat.{ℕ, ◌+◌}
use mathlib.Core.Path.{ap, ◌∙◌}
use native.Mathlib.Omega.{arith}
use lib.Dec.{eqb}
use lib.IntN.{pos}
use lib.ListN.{length, get_or, length-set}
use Rattle.arith.proofs.Signed.{back_mag}
use Rattle.arith.proofs.Columns.{mapped_next, mapped_end, written_next, written_end}
use Rattle.rules.specs.Ledger.{marks_from, row_place}
use Rattle.close_out_weights.specs.Columns.{lots_in, column_of}
use Rattle.close_out_weights.proofs.columns.read_column.Goals as goal

pub loop-i-preserved : goal.loop-i-preserved
loop-i-preserved c =
    let a = c.args in
    let f : ℕ → ℕ = λ m. lots_in a.part (eqb (get_or a.head.now (marks_from + m) 0) 1) (get_or a.lots.now (row_place a.contract m) (pos 0)) in
    let e = c.lots_in.ensures ∙ ap (lots_in a.part (eqb (get_or a.head.now (marks_from + c.loop-i.i) 0) 1))
    (back_mag (get_or a.lots.now (row_place a.contract c.loop-i.i) (pos 0)) c.lots_in-arg-1.given) in (
      omega arith,
      simp length-set c.loop-i.invariant.1,
      rw e (written_next c.loop-i.column c.loop-i.i _ _ _ (omega arith) (rw (mapped_next (length a.column.now) c.loop-i.i f (omega arith)) at c.loop-i.invariant.2)),
    )

pub returns : goal.returns
unfolding column_of
returns c =
    let pre = c.requires in
    λ t v. rw (← pre.column_len.0) (written_end c.loop-i.column c.loop-i.i _ _ (omega arith) (mapped_end _ c.loop-i.i _ (omega arith))
    c.loop-i.invariant.2)
