use native.Mathlib.Omega.{arith}
use Prim.Native.Nat.{◌+◌, ◌-◌}
use lib.ListN.{length}
use Rattle.arith.proofs.Writes.{came_back}
use Rattle.fresh.proofs.write_at.Goals as goal

pub returns : goal.returns
returns c =
    let a = c.args in
    rw c.copy_from_slice.ensures.after (came_back a.at (a.at + length a.list.now - a.at) a.head.now a.list.now (omega arith))
