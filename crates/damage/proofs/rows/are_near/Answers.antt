use Rattle.std.proofs.Common.{◌/◌, ◌^◌, sym, ap, ◌∙◌, arith, length-take-le}
use Rattle.arith.specs.Bits.{in_window}
use Rattle.rules.specs.Ledger.{rows_length}
use Rattle.damage.proofs.Columns.{row_whole}
use Rattle.damage.proofs.rows.are_near.Goals as goal

pub slice_bounds-or_of-end : goal.slice_bounds-or_of-end
slice_bounds-or_of-end c = sym (length-take-le rows_length c.args.rows.now (omega arith))

pub returns-then-n-eq-ROW_WIDTH : goal.returns-then-n-eq-ROW_WIDTH
returns-then-n-eq-ROW_WIDTH c =
    let a = c.args in
    λ k h. rw (h.1, c.if-n-eq-ROW_WIDTH.true) (c.or_of.ensures k (h.0, ap (λ w. w / 2) h.1) ∙ row_whole (in_window (2 ^ k)) a.rows.now)

pub returns : goal.returns
returns c =
    λ k h. rw h.1 (c.or_of_columns.ensures k (h.0, ap (λ w. w / 2) h.1))
