use Prim.Native.Nat.{◌+◌, ◌-◌}
use mathlib.Core.Path.{◌≡◌}
use native.Mathlib.Omega.{arith}
use Rattle.close_out_weights.specs.declared.columns.Part.TheVariants.{DefaultedLongs, DefaultedShorts}
use Rattle.close_out.proofs.Verdicts.{read_fits, defaulted_found}
use Rattle.close_out.proofs.defaulted.find_defaulted.Goals as goal

pub sum_of-long-requires : goal.sum_of-long-requires
sum_of-long-requires c =
    let pre = c.requires in
    (read_fits DefaultedLongs _ _ _ _ pre.head_fit.0.most_members_holds pre.head_fit.1 pre.head_fit.2 c.read_column.ensures).fits

pub sum_of-short-requires : goal.sum_of-short-requires
sum_of-short-requires c =
    let pre = c.requires in
    (read_fits DefaultedShorts _ _ _ _ pre.head_fit.0.most_members_holds pre.head_fit.1 pre.head_fit.2 c.read_column-2.ensures).fits

pub returns-clause-found : goal.returns-clause-found
returns-clause-found c =
    let e : c.abs_diff.result ≡ c.sum_of-long.result - c.min.result + (c.sum_of-short.result - c.min.result) = omega (arith, c.abs_diff.ensures, c.min.ensures) in
    rw e (defaulted_found _ _ _ _ _ c.read_column.ensures c.read_column-2.ensures _ _ _ c.sum_of-long.ensures c.sum_of-short.ensures c.min.ensures)

pub returns-clause-most : goal.returns-clause-most
returns-clause-most c =
    let f = c.requires.head_fit in
    let long = (read_fits DefaultedLongs _ _ _ _ f.0.most_members_holds f.1 f.2 c.read_column.ensures).most in
    let short = (read_fits DefaultedShorts _ _ _ _ f.0.most_members_holds f.1 f.2 c.read_column-2.ensures).most in
    omega (arith, long, short, c.sum_of-long.ensures, c.sum_of-short.ensures, c.min.ensures, c.abs_diff.ensures)
