use mathlib.Core.Path.{ap}
use Prim.Native.Nat.{◌+◌, ◌*◌}
use Rattle.rules.specs.Ranges.{order_numbers_end}
use Rattle.order_priority.proofs.Ranks.{price_below}
use Rattle.order_priority.specs.Priority.{rank_of}
use native.Mathlib.Omega.{arith}
use Rattle.order_priority.proofs.rank_of.Goals as goal

pub overflow_mul-result : goal.overflow_mul-result
overflow_mul-result c = omega (arith, c.price_rank.ensures, price_below c.args.r c.requires)

pub overflow_add-result : goal.overflow_add-result
overflow_add-result c = omega (arith, c.price_rank.ensures, price_below c.args.r c.requires)

pub returns : goal.returns
unfolding rank_of
returns c = ap (λ n. n * order_numbers_end + c.args.r.number) c.price_rank.ensures
