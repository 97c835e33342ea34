use Prim.Native.Nat.{◌+◌, ◌-◌}
use mathlib.Core.Path.{◌≡◌, refl}
use native.Mathlib.Omega.{arith}
use lib.ListN.{length}
use Rattle.arith.proofs.Writes.{came_back}
use Rattle.number_fields.proofs.headers.put_list.Goals as goal

pub returns : goal.returns
returns c =
    let a = c.args in
    let cut : a.at + length a.list.now - a.at ≡ length a.list.now = omega arith in
    rw (cut, c.copy_from_slice.ensures.after) (came_back a.at (length a.list.now) a.row.now a.list.now refl)
