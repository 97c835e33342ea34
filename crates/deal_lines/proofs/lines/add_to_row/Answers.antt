use lib.ListN.{get_or}
use lib.IntN.{pos}
use Rattle.arith.proofs.Signed.{add_ok, add_is}
use Rattle.deal_lines.proofs.lines.add_to_row.Goals as goal

pub overflow_add-lots : goal.overflow_add-lots
overflow_add-lots c = let a = c.args in add_ok (get_or a.lots.now a.at (pos 0)) a.more.0 c.requires.at_in_bounds.1

pub overflow_add-value : goal.overflow_add-value
overflow_add-value c = let a = c.args in add_ok (get_or a.value.now a.at (pos 0)) a.more_value.0 c.requires.at_in_bounds_2.1

pub returns : goal.returns
returns c =
    let a = c.args in
    record { lots_after = rw (add_is (get_or a.lots.now a.at (pos 0)) a.more.0 c.requires.at_in_bounds.1); value_after = rw (add_is (get_or a.value.now a.at (pos 0)) a.more_value.0 c.requires.at_in_bounds_2.1) }
