use Rattle.std.proofs.Common.{rules}
use Rattle.order_book.specs.Left.{leaves}
use Rattle.order_book.proofs.leaving.remove_orders.Goals as goal

pub returns : goal.returns
returns c = c.remove_where.ensures (leaves c.args.w) (λ o b m. search rules)
