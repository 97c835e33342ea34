use Rattle.rules.specs.Ledger.{with_orders}
use Rattle.order_book.proofs.leaving.keep_orders.Goals as goal

pub returns : goal.returns
unfolding with_orders
returns c = λ t. rw (c.write_staying-staying.ensures.value, c.write_staying-staying.ensures.book_after)
