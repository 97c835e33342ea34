use mathlib.Core.Path.{◌≡◌}
use mathlib.Core.Bool.{◌&&◌}
use mathlib.Core.List.{map}
use Prim.Native.Nat.{◌-◌}
use Rattle.arith.specs.Lists.{every, from}
use Rattle.rules.specs.Ledger.{order_at}
use Rattle.proposal_check.specs.LastRanks.{kept_by}
use Rattle.proposal_check.proofs.priority.are_kept.Given as goal

abbrev pub invariant-loop-i : goal.invariant-loop-i
invariant-loop-i l = l.ok && every (kept_by l.lasts l.legs) (map (order_at l.book) (from l.i (l.count - l.i))) ≡ every (kept_by l.lasts l.legs) (map (order_at l.book) (from 0 l.count))
