use native.Mathlib.Omega.{arith}
use Rattle.proposal_check.proofs.balance.sum_of_three.Goals as goal

pub overflow_add-result : goal.overflow_add-result
overflow_add-result c = omega (
  arith,
  c.requires.0.most c.args.year c.requires.1,
  c.requires.0.most c.args.quarter c.requires.2,
)

pub overflow_add-result-2 : goal.overflow_add-result-2
overflow_add-result-2 c =
    omega (arith, c.requires.0.most c.args.year c.requires.1, c.requires.0.most c.args.quarter c.requires.2, c.requires.0.most c.args.month c.requires.3)
