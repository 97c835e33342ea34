use native.Mathlib.Omega.{arith}
use Rattle.matching.proofs.Lows.{lowest_both}
use Rattle.matching.proofs.columns.lowest_of_block.Goals as goal

pub returns : goal.returns
returns c =
    lowest_both _ _ 8 _ 8 _ _ _
    (lowest_both _ _ 4 _ 4 _ _ _ c.lowest_of_four-first.ensures c.lowest_of_four-second.ensures (omega arith) c.min.ensures)
    (lowest_both _ _ 4 _ 4 _ _ _ c.lowest_of_four-third.ensures c.lowest_of_four-fourth.ensures (omega arith) c.min-2.ensures)
    (omega arith) c.min-3.ensures
