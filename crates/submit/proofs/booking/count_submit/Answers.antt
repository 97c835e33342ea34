use native.Mathlib.Omega.{arith}
use lib.ListN.{length-set}
use Rattle.submit.proofs.booking.count_submit.Goals as goal

pub bounds-head-5-2 : goal.bounds-head-5-2
bounds-head-5-2 c = simp length-set (omega arith)
