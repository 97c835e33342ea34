use native.Mathlib.Omega.{arith}
use mathlib.Core.List.{[], ◌∷◌}
use lib.ListN.{length-set}
use Rattle.arith.proofs.Writes.{stored}
use Rattle.fresh.proofs.write_numbers.Goals as goal

pub bounds-head-1 : goal.bounds-head-1
bounds-head-1 c = simp length-set (omega arith)

pub bounds-head-2 : goal.bounds-head-2
bounds-head-2 c = simp length-set (omega arith)

pub bounds-head-3 : goal.bounds-head-3
bounds-head-3 c = simp length-set (omega arith)

pub bounds-head-4 : goal.bounds-head-4
bounds-head-4 c = simp length-set (omega arith)

pub bounds-head-5 : goal.bounds-head-5
bounds-head-5 c = simp length-set (omega arith)

pub bounds-head-6 : goal.bounds-head-6
bounds-head-6 c = simp length-set (omega arith)

pub bounds-head-7 : goal.bounds-head-7
bounds-head-7 c = simp length-set (omega arith)

pub shape_of-head : goal.shape_of-head
shape_of-head c = simp length-set

pub returns : goal.returns
returns c = let a = c.args in stored (a.first_year ∷ a.members ∷ a.holidays ∷ a.start.0 ∷ 0 ∷ 0 ∷ 0 ∷ 0 ∷ []) a.head.now 0 (omega arith)
