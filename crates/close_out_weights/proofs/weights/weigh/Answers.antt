use Prim.Native.Nat.{◌+◌}
use mathlib.Core.Path.{◌≡◌, ap, ◌∙◌}
use native.Mathlib.Omega.{arith}
use lib.Dec.{eqb}
use lib.ListN.{length, get_or, replicate, length-replicate}
use Rattle.arith.proofs.Columns.{mapped_length}
use Rattle.rules.specs.Ledger.{marks_from}
use Rattle.rules.specs.Ranges.{most_lots_run}
use Rattle.tables.specs.Fit.{RowsFit, members_in}
use Rattle.close_out_weights.proofs.DayWeights.{sums_read}
use Rattle.close_out_weights.proofs.weights.weigh.Goals as goal

pub add_contracts-requires : goal.add_contracts-requires
add_contracts-requires c =
    let a = c.args in
    let e : length a.sums.now ≡ members_in a.head.now = ap length c.requires.head_fit.3 ∙ length-replicate _ _ in
    let fit : RowsFit (length a.sums.now) most_lots_run a.lots.now = rw e c.requires.head_fit.1 in
    let zeros : a.sums.now ≡ replicate (length a.sums.now) 0 = rw e c.requires.head_fit.3 in
    record { days_len = c.requires.days_len; rows_fit = (fit, omega (arith, c.requires.head_fit.0.most_members_holds), zeros) }

pub write_weights-requires : goal.write_weights-requires
write_weights-requires c =
    let e = ap length c.requires.head_fit.3 ∙ length-replicate _ _ in
    (c.requires.head_fit.0, ap length c.add_contracts.ensures ∙ mapped_length _ 0 _ ∙ e, c.requires.head_fit.2)

pub returns : goal.returns
returns c =
    let a = c.args in
    let e : length a.sums.now ≡ members_in a.head.now = ap length c.requires.head_fit.3 ∙ length-replicate _ _ in
    c.write_weights.ensures
    ∙ sums_read a.days.now a.lots.now (members_in a.head.now) (λ m. eqb (get_or a.head.now (marks_from + m) 0) 1) _ (rw e at c.add_contracts.ensures)
