use mathlib.Core.Path.{refl}
use native.Mathlib.Omega.{arith}
use borrow.Author.Tests.{eq-eqb, ne_eqb}
use Rattle.order_book.proofs.Left.{lots_written}
use Rattle.order_book.proofs.leaving.keep_order.Goals as goal

pub returns-then-left-eq0 : goal.returns-then-left-eq0
returns-then-left-eq0 c = rw (eq-eqb _ _ c.if-left-eq0.true) record { value = refl; book_after = refl }

pub returns-then-free-i : goal.returns-then-free-i
returns-then-free-i c =
    rw (ne_eqb _ _ c.if-left-eq0.false, c.if-free-i.true) record { value = refl; book_after = lots_written c.args.book.now c.args.i c.args.left.0 (omega arith) c.requires.3 }

pub returns : goal.returns
returns c =
    rw (ne_eqb _ _ c.if-left-eq0.false) record { value = refl; book_after = rw (c.with_lots.ensures, c.order_at-o.ensures) at c.put_order.ensures }
