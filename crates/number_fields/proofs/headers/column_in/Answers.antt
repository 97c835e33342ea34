use Prim.Native.Nat.{◌+◌, ◌-◌}
use mathlib.Core.Path.{◌≡◌, refl, ◌∙◌}
use native.Mathlib.Omega.{arith}
use Rattle.number_fields.proofs.HeaderOutcomes.{column_read}
use Rattle.number_fields.proofs.headers.column_in.Goals as goal

pub returns : goal.returns
returns g c = let a = c.args in rw c.copy_from_slice.ensures.after (column_read g.row.PLACES a.row.now a.at a.count (omega arith) (omega arith))
