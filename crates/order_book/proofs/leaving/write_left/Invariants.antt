use mathlib.Core.Bool.{Bool}
use mathlib.Core.Path.{◌≡◌}
use mathlib.Core.List.{◌++◌}
use lib.ListN.{length, take, drop}
use Rattle.rules.specs.declared.order.Order.{Order}
use Rattle.tables.specs.Fit.{orders_in}
use Rattle.order_book.specs.Left.{staying, Tests}
use Rattle.order_book.proofs.leaving.write_left.Given as goal

abbrev pub invariant-loop-i : goal.invariant-loop-i
invariant-loop-i g l = (p : Order → Bool) → Tests (goal.F-post g l.leaves) p → l.left ≡ take l.i (staying p (orders_in (length l.initial.left) l.book)) ++ drop l.i l.initial.left
