use Prim.Native.Nat.{◌≤◌}
use Rattle.submit.proofs.Kept.{WorthTo}
use Rattle.submit.proofs.deals.worth_of.Given as goal

abbrev pub invariant-loop-k : goal.invariant-loop-k
invariant-loop-k l = (l.k ≤ l.count) × WorthTo l.deals l.k l.worth
