use mathlib.Core.Path.{sym}
use mathlib.Core.List.{map}
use native.Mathlib.Omega.{arith}
use Rattle.rules.specs.declared.contract.ContractKind.TheVariants.{Year}
use Rattle.cascade.specs.Rows.{most_row}
use Rattle.cascade.proofs.Cascades.{kind_fit_after, all_closed}
use Rattle.cascade.proofs.rows.cascade_all.Goals as goal

pub cascade_kind-requires : goal.cascade_kind-requires
cascade_kind-requires g c =
    let fit = c.requires.0 in
    record { rows_fit = (record { long = fit.long; within = λ x m u k. omega (arith, fit.within x m u k) }, omega arith); kind_bound = (omega arith, c.requires.2) }

pub cascade_kind-requires-2 : goal.cascade_kind-requires-2
cascade_kind-requires-2 g c =
    let pre = c.requires in
    let a = c.args in
    record { rows_fit = (rw c.cascade_kind.ensures (kind_fit_after a.members most_row Year (map g.P.PhasePlace.read a.column.now) a.rows.now (omega arith) (omega arith) pre.0), omega arith); kind_bound = (omega arith, pre.2) }

pub returns : goal.returns
returns g c =
    let a = c.args in
    rw (c.cascade_kind-2.ensures, c.cascade_kind.ensures) (sym (all_closed a.members (map g.P.PhasePlace.read a.column.now) a.rows.now))
