use Rattle.std.proofs.Common.{◌≡◌, suc, ◌-◌, ◌||◌, eqb, map}
use Rattle.arith.specs.Lists.{any, from}
use Rattle.damage.specs.Orders.{number_at}
use Rattle.damage.proofs.book.is_repeated.Given as goal

abbrev pub invariant-loop-j : goal.invariant-loop-j
invariant-loop-j l = l.found || any (eqb (number_at l.book l.i)) (map (number_at l.book) (from l.j (l.count - l.j))) ≡ any (eqb (number_at l.book l.i)) (map (number_at l.book) (from (suc l.i) (l.count - suc l.i)))
