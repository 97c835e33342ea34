use mathlib.Core.Path.{◌≡◌}
use mathlib.Core.List.{flat_map}
use lib.ListN.{length}
use Rattle.arith.specs.Lists.{over}
use Rattle.rules.specs.Ledger.{order_places}
use Rattle.order_book.proofs.Left.{left_to}
use Rattle.order_book.proofs.leaving.write_staying.Given as goal

abbrev pub invariant-loop-i : goal.invariant-loop-i
invariant-loop-i l = (l.free ≡ length (left_to l.left l.initial.book l.i)) × (l.book ≡ over 0 (flat_map order_places (left_to l.left l.initial.book l.i)) l.initial.book)
