use native.Mathlib.Omega.{arith}
use lib.ListN.{length-set}
use Rattle.submit.proofs.trade.add_dealt.Goals as goal

pub bounds-prices-at-4 : goal.bounds-prices-at-4
bounds-prices-at-4 c = simp length-set (omega arith)
