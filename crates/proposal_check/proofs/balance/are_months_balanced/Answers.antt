use mathlib.Core.Path.{refl}
use lib.Dec.{eqb}
use Rattle.arith.proofs.Scans.{each_next, each_end}
use Rattle.rules.specs.declared.order.Side.TheVariants.{Buy, Sell}
use Rattle.proposal_check.specs.Sums.{month_sum, balanced_sums}
use Rattle.proposal_check.proofs.balance.are_months_balanced.Goals as goal

pub loop-month-init : goal.loop-month-init
unfolding balanced_sums
loop-month-init c = refl

pub loop-month-preserved : goal.loop-month-preserved
loop-month-preserved c =
    let a = c.args in
    rw c.is_month_balanced-ok.ensures
    (each_next (λ m. eqb (month_sum a.sums.now Buy m) (month_sum a.sums.now Sell m)) 72 c.loop-month.month c.loop-month.ok _ c.loop-month.invariant c.loop-month-test.true)

pub returns : goal.returns
returns c =
    let a = c.args in
    each_end (λ m. eqb (month_sum a.sums.now Buy m) (month_sum a.sums.now Sell m)) 72 c.loop-month.month c.loop-month.ok _ c.loop-month.invariant c.loop-month-test.false
