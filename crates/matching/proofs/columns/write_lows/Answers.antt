use native.Mathlib.Omega.{arith}
use Rattle.matching.proofs.Lows.{lows_next}
use Rattle.matching.proofs.columns.write_lows.Goals as goal

pub loop-b-init : goal.loop-b-init
loop-b-init c = λ c h. absurd (omega arith)

pub loop-b-preserved : goal.loop-b-preserved
loop-b-preserved c =
    let ranks = c.args.ranks.now in
    lows_next ranks c.loop-b.lows c.loop-b.b _ (omega arith) c.loop-b.invariant c.lowest_of_block.ensures

pub returns : goal.returns
returns c =
    record { long = omega arith; low = λ b h. c.loop-b.invariant b (omega arith) }
