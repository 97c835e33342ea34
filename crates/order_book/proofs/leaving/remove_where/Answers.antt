use Rattle.order_book.proofs.Left.{column_kept, all_orders}
use lib.ListN.{get_or, replicate}
use Prim.Native.Nat.{◌≤◌}
use Rattle.rules.specs.Ledger.{order_count_place, with_head, with_book, with_orders}
use mathlib.Core.Path.{ap, ◌∙◌}
use Rattle.order_book.proofs.leaving.remove_where.Goals as goal

pub returns : goal.returns
returns g c =
    λ p tests t.
    let a = c.args in
    let n = get_or a.head.now order_count_place 0 in
    let fit = c.requires.fit.1 in
    c.keep_orders.ensures t
    ∙ ap (λ os. with_orders os (with_head a.head.now (with_book a.book.now t)))
    (column_kept p n _ (replicate 256 0) a.book.now fit.most_orders_holds (c.write_left.ensures p tests)
    (all_orders (λ o. 1 ≤ o.lots.0) a.book.now n (λ i h. fit.least_lots i h)))
