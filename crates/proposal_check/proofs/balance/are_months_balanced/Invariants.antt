use mathlib.Core.Path.{◌≡◌}
use mathlib.Core.Bool.{◌&&◌}
use Prim.Native.Nat.{◌-◌}
use lib.Dec.{eqb}
use Rattle.arith.specs.Lists.{every, from}
use Rattle.rules.specs.declared.order.Side.TheVariants.{Buy, Sell}
use Rattle.proposal_check.specs.Sums.{month_sum, balanced_sums}
use Rattle.proposal_check.proofs.balance.are_months_balanced.Given as goal

abbrev pub invariant-loop-month : goal.invariant-loop-month
invariant-loop-month l = l.ok && every (λ m. eqb (month_sum l.sums Buy m) (month_sum l.sums Sell m)) (from l.month (72 - l.month)) ≡ balanced_sums l.sums
