use native.Mathlib.Omega.{arith}
use Prim.Native.Nat.{◌+◌}
use Rattle.matching.proofs.Lows.{lowest_one, lowest_both}
use Rattle.matching.proofs.columns.lowest_of_four.Goals as goal

pub returns : goal.returns
returns c =
    let at = c.args.at in
    let l = c.args.ranks.now in
    lowest_both l at 2 (at + 2) 2 _ _ _ (lowest_both l at 1 (at + 1) 1 _ _ _ (lowest_one l at) (lowest_one l (at + 1)) (omega arith) c.min-front.ensures)
    (lowest_both l (at + 2) 1 (at + 3) 1 _ _ _ (lowest_one l (at + 2)) (lowest_one l (at + 3)) (omega arith) c.min.ensures) (omega arith) c.min-2.ensures
