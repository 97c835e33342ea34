use native.Mathlib.Omega.{arith}
use native.Mathlib.Nat.{mul-le-mul, mul-add}
use Rattle.proposal_check.specs.Sums.{amount_of}
use Rattle.proposal_check.proofs.balance.leg_amount.Goals as goal

pub returns : goal.returns
unfolding amount_of
returns c = omega (arith, c.times.ensures, mul-add c.args.leg.lots.0 4294967296 c.args.leg.price.0)

pub times-requires : goal.times-requires
times-requires c = let pre = c.requires in omega (arith, mul-le-mul pre.0 pre.1)

pub overflow_add-result : goal.overflow_add-result
overflow_add-result c = let pre = c.requires in omega (arith, c.times.ensures, mul-le-mul pre.0 pre.1)
