use Rattle.std.proofs.Common.{◌≡◌, ◌-◌, ◌&&◌, map}
use Rattle.arith.specs.Lists.{from}
use Rattle.rules.specs.Refusals.{distinct}
use Rattle.damage.specs.Orders.{number_at}
use Rattle.damage.proofs.book.is_none_repeated.Given as goal

abbrev pub invariant-loop-i : goal.invariant-loop-i
invariant-loop-i l = l.ok && distinct (map (number_at l.book) (from l.i (l.count - l.i))) ≡ distinct (map (number_at l.book) (from 0 l.count))
