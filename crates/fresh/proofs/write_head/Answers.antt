use Rattle.rules.specs.Ledger.{fresh_head}
use Rattle.fresh.proofs.write_head.Goals as goal

pub returns : goal.returns
unfolding fresh_head
returns c =
    let write-numbers = c.write_numbers in
    let write-at = c.write_at in
    let write-at2 = c.write_at-2 in
    let clear_at = c.clear_at in
    let clear-at2 = c.clear_at-2 in
    rw (clear-at2.ensures, clear_at.ensures, write-at2.ensures, write-at.ensures, write-numbers.ensures)
