use Prim.Native.Nat.{◌*◌, ◌-◌}
use native.Mathlib.Omega.{arith}
use lib.IntN.{pos}
use Rattle.arith.specs.Lists.{from}
use Rattle.arith.proofs.Writes.{filled}
use Rattle.rules.specs.CloseOfDay.{added_to, zero_rows}
use Rattle.rules.proofs.Cascade.{added_length}
use Rattle.cascade.proofs.rows.move_rows.Goals as goal

pub returns : goal.returns
unfolding zero_rows
returns c =
    let pre = c.requires in
    let a = c.args in
    let t = a.rows.now in
    let long = pre.rows_fit.0.long in
    let same = added_length a.members a.contract (omega arith) (omega arith) (a.end - a.first) a.first t long (omega arith) (omega arith) in
    rw (c.clear_rows.ensures, c.add_to_children.ensures)
    (filled (a.contract * 32) a.members (added_to a.members a.contract (from a.first (a.end - a.first)) t) (pos 0) (omega arith))
