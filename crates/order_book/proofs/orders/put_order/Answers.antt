use native.Mathlib.Omega.{arith}
use native.Mathlib.Nat.{add-zero}
use native.Mathlib.Numerals.{add-one, add-two, add-three, add-four, add_five, add_six, add_seven}
use Prim.Native.Nat.{◌*◌}
use lib.ListN.{length-set}
use Rattle.rules.specs.Ledger.{order_width}
use Rattle.rules.specs.Ledger.{order_places}
use Rattle.arith.proofs.Writes.{stored}
use Rattle.order_book.proofs.orders.put_order.Goals as goal

pub bounds-book-at-2 : goal.bounds-book-at-2
bounds-book-at-2 c = simp length-set (omega arith)

pub bounds-book-at-3 : goal.bounds-book-at-3
bounds-book-at-3 c = simp length-set (omega arith)

pub bounds-book-at-4 : goal.bounds-book-at-4
bounds-book-at-4 c = simp length-set (omega arith)

pub bounds-book-at-5 : goal.bounds-book-at-5
bounds-book-at-5 c = simp length-set (omega arith)

pub bounds-book-at-6 : goal.bounds-book-at-6
bounds-book-at-6 c = simp length-set (omega arith)

pub bounds-book-at-7 : goal.bounds-book-at-7
bounds-book-at-7 c = simp length-set (omega arith)

pub bounds-book-at-8 : goal.bounds-book-at-8
bounds-book-at-8 c = simp length-set (omega arith)

pub returns : goal.returns
returns c =
    let at = c.args.i * order_width in
    rw (c.side_number.ensures.0, add-zero at, add-one at, add-two at, add-three at, add-four at, add_five at, add_six at, add_seven at)
    (stored (order_places c.args.o) c.args.book.now at (omega arith))
