use Rattle.std.proofs.Common.{◌≡◌, ◌&&◌, leb, drop, nat_abs}
use Rattle.arith.specs.Lists.{every}
use Rattle.damage.proofs.rows.are_within.Given as goal

abbrev pub invariant-loop-x : goal.invariant-loop-x
invariant-loop-x l = l.ok && every (λ z. leb (nat_abs z) l.bound) (drop l.x-index l.rows) ≡ every (λ z. leb (nat_abs z) l.bound) l.rows
