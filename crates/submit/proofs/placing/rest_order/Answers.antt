use Prim.Native.Nat.{◌*◌}
use lib.ListN.{get_or}
use Rattle.arith.specs.Lists.{over}
use Rattle.rules.specs.Ledger.{order_width}
use Rattle.rules.specs.Ledger.{order_count_place}
use Rattle.rules.specs.Ledger.{order_places}
use native.Mathlib.Omega.{arith}
use mathlib.Core.Path.{refl, ap, ◌∙◌}
use Rattle.submit.proofs.placing.rest_order.Goals as goal

pub put_order-requires : goal.put_order-requires
put_order-requires c =
    (c.requires.2 (rw (← c.is_resting.ensures) c.if-is_resting-left.true), c.requires.1)

pub overflow_add-head : goal.overflow_add-head
overflow_add-head c =
    omega (arith, c.requires.2 (rw (← c.is_resting.ensures) c.if-is_resting-left.true))

pub returns-then-is_resting-left : goal.returns-then-is_resting-left
returns-then-is_resting-left c =
    let a = c.args in record {
      head_after = rw (← c.is_resting.ensures, c.if-is_resting-left.true) refl;
      book_after = rw (← c.is_resting.ensures, c.if-is_resting-left.true)
          (c.put_order.ensures ∙ ap (λ x. over (get_or a.head.now order_count_place 0 * order_width) (order_places x) a.book.now) c.with_lots.ensures);
    }

pub returns-else-is_resting-left : goal.returns-else-is_resting-left
returns-else-is_resting-left c = record { head_after = rw (← c.is_resting.ensures, c.if-is_resting-left.false) refl; book_after = rw (← c.is_resting.ensures, c.if-is_resting-left.false) refl }
