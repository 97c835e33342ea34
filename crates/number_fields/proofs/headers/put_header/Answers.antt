use Prim.Native.Nat.{ℕ}
use mathlib.Core.List.{List, [], ◌∷◌}
use lib.ListN.{length}
use lib.Seq.{length-sets}
use native.Mathlib.Omega.{arith}
use lib.ListN.{length-set}
use Rattle.number_fields.proofs.HeaderOutcomes.{header_put}
use Rattle.number_fields.proofs.headers.put_header.Goals as goal

pub bounds-row-1 : goal.bounds-row-1
bounds-row-1 c = simp length-set (omega arith)

pub bounds-row-2 : goal.bounds-row-2
bounds-row-2 c = simp length-set (omega arith)

pub bounds-row-3 : goal.bounds-row-3
bounds-row-3 c = simp length-set (omega arith)

pub put_list-requires : goal.put_list-requires
put_list-requires c = simp length-set (omega arith)

pub put_list-requires-2 : goal.put_list-requires-2
put_list-requires-2 c =
    let a = c.args in
    let four : List ℕ = a.first_year ∷ a.start.0 ∷ length a.limits.now ∷ length a.holidays.now ∷ [] in
    omega (arith, length-sets a.row.now 0 four)

pub shape_of-row : goal.shape_of-row
shape_of-row c =
    let a = c.args in
    let four : List ℕ = a.first_year ∷ a.start.0 ∷ length a.limits.now ∷ length a.holidays.now ∷ [] in
    omega (arith, length-sets a.row.now 0 four)

pub returns : goal.returns
returns c =
    header_put _ c.args.row.now _ _ c.requires.0 c.put_list.ensures c.put_list-2.ensures
