use mathlib.Core.Path.{◌≡◌, ◌∙◌}
use mathlib.Core.List.{zip_with}
use Prim.Native.Nat.{◌+◌, ◌*◌, ◌-◌}
use native.Mathlib.Omega.{arith}
use lib.IntN.{◌+ℤ◌}
use Rattle.arith.proofs.Writes.{came_back}
use Rattle.rules.specs.CloseOfDay.{contract_rows}
use Rattle.rules.proofs.Cascade.{rows_length_lem, rows_at}
use Rattle.cascade.proofs.Cascades.{zip_short}
use Rattle.cascade.proofs.rows.add_to_child.Goals as goal

pub add_rows-requires : goal.add_rows-requires
add_rows-requires c =
    let a = c.args in
    let t = a.rows.now in
    let cut : a.child * 32 + a.members - a.child * 32 ≡ a.members = omega arith in
    let many = rows_length_lem a.members a.child t c.requires.rows_length_in_bounds.0 c.requires.rows_length_in_bounds.2 c.requires.rows_length_in_bounds.1 in
    rw cut record { child_len_bound = omega arith; by_index = λ m h. let k = rw many at h in rw (rows_at a.members a.child t c.requires.rows_length_in_bounds.0 c.requires.rows_length_in_bounds.2 c.requires.rows_length_in_bounds.1 m k) (c.requires.by_index m k) }

pub returns : goal.returns
returns c =
    let a = c.args in
    let t = a.rows.now in
    let cut : a.child * 32 + a.members - a.child * 32 ≡ a.members = omega arith in
    let many = rows_length_lem a.members a.child t c.requires.rows_length_in_bounds.0 c.requires.rows_length_in_bounds.2 c.requires.rows_length_in_bounds.1 in
    let mine = contract_rows a.members a.child t in
    rw (c.add_rows.ensures, cut) (came_back (a.child * 32) a.members t (zip_with ◌+ℤ◌ mine a.parent) (zip_short ◌+ℤ◌ mine a.parent (omega arith) ∙ many))
