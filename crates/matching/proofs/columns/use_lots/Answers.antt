use mathlib.Core.Path.{refl}
use native.Mathlib.Omega.{arith}
use lib.ListN.{length-set}
use borrow.Author.Tests.{eq-eqb, ne_eqb}
use Rattle.matching.proofs.Lows.{lows_renewed}
use Rattle.matching.proofs.columns.use_lots.Goals as goal

pub lowest_of_block-requires : goal.lowest_of_block-requires
lowest_of_block-requires c = simp length-set (omega arith)

pub returns-then-rest-eq0 : goal.returns-then-rest-eq0
returns-then-rest-eq0 c =
    record { left_after_holds = refl; ranks_after = rw (eq-eqb _ 0 c.if-rest-eq0.true) refl; block_lows = lows_renewed _ _ c.requires.4 _ _ _ (omega arith) c.lowest_of_block.ensures }

pub returns-else-rest-eq0 : goal.returns-else-rest-eq0
returns-else-rest-eq0 c =
    record { left_after_holds = refl; ranks_after = rw (ne_eqb _ 0 c.if-rest-eq0.false) refl; block_lows = c.requires.4 }
