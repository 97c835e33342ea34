use Prim.Native.Nat.{◌*◌, ◌≤◌}
use mathlib.Core.Path.{◌∙◌}
use mathlib.Core.List.{[]}
use native.Mathlib.Omega.{arith}
use native.Mathlib.Nat.{mul-le-mul}
use Rattle.rules.specs.Ledger.{with_head, with_rows}
use Rattle.rules.specs.Ranges.{most_members}
use Rattle.dealing.specs.Levels.{most_weight}
use Rattle.close_out_weights.specs.declared.columns.Part.TheVariants.{Others}
use Rattle.close_out.proofs.Running.{blank}
use Rattle.close_out_weights.proofs.ColumnFits.{column_fits, days_column, weights_here, weights_days, sum_fits}
use Rattle.close_out.proofs.weights.find_weights.Goals as goal

pub sum_of-requires : goal.sum_of-requires
sum_of-requires c =
    let pre = c.requires in
    let a = c.args in
    rw (c.read_column.ensures blank [])
    (column_fits (with_head a.head.now (with_rows a.lots.now [] blank)) pre.head_fit.0.most_members_holds pre.head_fit.1 Others a.e.contract pre.contract_lt_contract_count.0)

pub overflow_mul-e : goal.overflow_mul-e
overflow_mul-e c =
    let pre = c.requires in
    let a = c.args in
    let t = with_head a.head.now (with_rows a.lots.now [] blank) in
    let most : c.sum_of.result ≤ most_members * most_weight =
    rw (c.sum_of.ensures, c.read_column.ensures blank []) (sum_fits _ (column_fits t pre.head_fit.0.most_members_holds pre.head_fit.1 Others a.e.contract pre.contract_lt_contract_count.0)) in
    omega (arith, mul-le-mul pre.contract_lt_contract_count.1 most)

pub returns-then-remaining-e : goal.returns-then-remaining-e
returns-then-remaining-e c =
    let pre = c.requires in
    let a = c.args in
    let r = c.read_column.ensures in
    let s = with_head a.head.now (with_rows a.lots.now [] blank) in record {
      column_after = λ t v k. let u = with_head a.head.now (with_rows a.lots.now v t) in
          r t v ∙ weights_here u a.e a.remaining k (rw (← r t v, ← c.sum_of.ensures) c.if-remaining-e.true);
      member_column = rw (r blank []) (column_fits s pre.head_fit.0.most_members_holds pre.head_fit.1 Others a.e.contract pre.contract_lt_contract_count.0);
    }

pub returns : goal.returns
returns c =
    let pre = c.requires in
    let a = c.args in
    let r = c.read_column.ensures in
    let w = c.weigh_by_days.ensures in
    let s = with_head a.head.now (with_rows a.lots.now [] blank) in record {
      column_after = λ t v k. let u = with_head a.head.now (with_rows a.lots.now v t) in
          w t v ∙ weights_days u a.e a.remaining k (rw (← r t v, ← c.sum_of.ensures) c.if-remaining-e.false);
      member_column = rw (w blank []) (days_column s pre.head_fit.0.most_members_holds pre.head_fit.1);
    }
