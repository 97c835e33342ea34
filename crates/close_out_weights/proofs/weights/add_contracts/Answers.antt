use mathlib.Core.Path.{refl, ap, ◌∙◌}
use native.Mathlib.Omega.{arith}
use lib.ListN.{length}
use Rattle.arith.proofs.Columns.{mapped_length}
use Rattle.close_out_weights.proofs.DayWeights.{sums_start, sums_next}
use Rattle.close_out_weights.proofs.ColumnFits.{sums_most}
use Rattle.close_out_weights.proofs.weights.add_contracts.Goals as goal

pub loop-contract-init : goal.loop-contract-init
loop-contract-init c =
    (omega arith, refl, c.requires.rows_fit.2 ∙ sums_start c.args.days.now c.args.lots.now (length c.args.sums.now))

pub add_if_open-requires : goal.add_if_open-requires
add_if_open-requires c =
    let a = c.args in
    let few = c.requires.rows_fit.1 in record { contract_lt_contract_count = (omega arith, c.requires.days_len.1 c.loop-contract.contract, rw c.loop-contract.invariant.1 c.requires.rows_fit.0, omega arith); by_index = λ m. rw c.loop-contract.invariant.2 (sums_most a.days.now a.lots.now (length a.sums.now) c.loop-contract.contract c.requires.days_len.1 c.requires.rows_fit.0 (omega arith) m) }

pub loop-contract-preserved : goal.loop-contract-preserved
loop-contract-preserved c =
    let a = c.args in
    let added = rw c.loop-contract.invariant.1 at c.add_if_open.ensures in
    let next = sums_next a.days.now a.lots.now (length a.sums.now) c.loop-contract.contract c.loop-contract.sums _ c.loop-contract.invariant.2 added in
    (omega arith, ap length next ∙ mapped_length _ 0 (length a.sums.now), next)
