use native.Mathlib.Nat.{add-zero}
use Prim.Native.Nat.{◌*◌}
use Rattle.rules.specs.Ledger.{order_width}
use Rattle.order_book.proofs.orders.order_at.Goals as goal

pub returns : goal.returns
returns c =
    let args = c.args in
    rw (← c.side_of.ensures, add-zero (args.i * order_width))
