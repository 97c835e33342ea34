use Rattle.std.proofs.Common.{sym, ◌∙◌}
use Rattle.damage.proofs.Columns.{row_within}
use Rattle.damage.proofs.rows.are_rows_within.Goals as goal

pub returns-then-are_near : goal.returns-then-are_near
returns-then-are_near c =
    let a = c.args in
    let w = c.width_within-width.ensures in
    row_within c.width_within-width.result a.bound a.members a.rows.now w.2 (sym (c.are_near.ensures w.0 w.1) ∙ c.if-are_near.true)

pub returns : goal.returns
returns c = c.is_each_within.ensures
