use mathlib.Core.Path.{◌≡◌}
use mathlib.Core.List.{map}
use Prim.Native.Nat.{◌-◌}
use Rattle.arith.specs.Lists.{any, from}
use Rattle.rules.specs.Ledger.{order_at}
use Rattle.order_book.specs.Left.{leaves}
use Rattle.order_book.proofs.leaving.would_any_leave.Given as goal

abbrev pub invariant-loop-i : goal.invariant-loop-i
invariant-loop-i l = any (leaves l.w) (map (order_at l.book) (from l.i (l.count - l.i))) ≡ any (leaves l.w) (map (order_at l.book) (from 0 l.count))
