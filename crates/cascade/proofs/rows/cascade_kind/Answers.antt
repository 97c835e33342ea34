use Rattle.cascade.proofs.Cascades.{kind_start, kind_end}
use mathlib.Core.Path.{refl, ◌∙◌}
use mathlib.Core.List.{map}
use Prim.Native.Nat.{◌*◌, ◌<◌}
use native.Mathlib.Omega.{arith}
use lib.ListN.{length}
use Rattle.rules.specs.OtherForms.{contracts_in}
use Rattle.contract_phases.proofs.Phases.{number_below, place_read}
use Rattle.cascade.specs.Rows.{most_row}
use Rattle.cascade.proofs.Cascades.{kind_next, number_parent}
use Rattle.cascade.proofs.rows.cascade_kind.Goals as goal

pub loop-i-init : goal.loop-i-init
loop-i-init g c =
    let a = c.args in
    kind_start a.members (length a.rows.now) (7 * most_row) a.kind (map g.P.PhasePlace.read a.column.now) _ (omega arith) (omega arith) a.rows.now refl c.requires.rows_fit.0 refl

pub contract_of-contract-requires : goal.contract_of-contract-requires
contract_of-contract-requires g c = omega (arith, c.contracts_in-i-end.ensures)

pub bounds-column-contract : goal.bounds-column-contract
bounds-column-contract g c =
    let args = c.args in
    let b = number_below args.kind c.loop-i.i (omega (arith, c.contracts_in-i-end.ensures)) in omega (arith, c.contract_of-contract.ensures)

pub cascade_closing-requires : goal.cascade_closing-requires
cascade_closing-requires g c =
    let s = c.args.kind in
    let h : c.loop-i.i < contracts_in s = omega (arith, c.contracts_in-i-end.ensures) in
    rw c.contract_of-contract.ensures
    record { rows_fit = (record { long = c.loop-i.invariant.fit.long; within = λ x m u k. omega (arith, c.loop-i.invariant.fit.within x m u k) }, omega arith); contract_lt_term_count = (number_below s c.loop-i.i h, number_parent s c.loop-i.i (omega arith)) }

pub loop-i-preserved : goal.loop-i-preserved
loop-i-preserved g c =
    let a = c.args in
    let b = number_below a.kind c.loop-i.i (omega (arith, c.contracts_in-i-end.ensures)) in
    let below : c.contract_of-contract.result < length a.column.now = omega (arith, c.contract_of-contract.ensures, b, c.requires.kind_bound.1) in
    let phase = c.to_phase.ensures ∙ place_read g.P.PhasePlace.read a.column.now c.contract_of-contract.result c.index-column-contract.result below c.index-column-contract.is in
    rw (c.cascade_closing.ensures, phase, c.contract_of-contract.ensures)
    (kind_next a.members (length a.rows.now) (7 * most_row) a.kind (map g.P.PhasePlace.read a.column.now) _ (omega arith) (omega arith) c.loop-i.i c.loop-i.rows (omega (arith, c.contracts_in-i-end.ensures))
    c.loop-i.invariant)

pub shape_of-rows : goal.shape_of-rows
shape_of-rows g c = c.loop-i.invariant.same

pub returns : goal.returns
returns g c =
    let a = c.args in
    kind_end a.members (length a.rows.now) (7 * most_row) a.kind (map g.P.PhasePlace.read a.column.now) _ (omega arith) (omega arith) c.loop-i.i c.loop-i.rows (omega (arith, c.contracts_in-i-end.ensures))
    c.loop-i.invariant
