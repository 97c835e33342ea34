use Rattle.rules.specs.Ledger.{fresh}
use Rattle.fresh.proofs.write_fresh.Goals as goal

pub returns : goal.returns
unfolding fresh
returns c =
    let write-head = c.write_head in
    let write-prices = c.write_prices in
    let write-rows = c.write_rows in
    λ t. rw (write-head.ensures, write-prices.ensures, write-rows.ensures, c.write_rows-2.ensures)
