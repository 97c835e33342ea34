use mathlib.Core.Path.{◌≡◌}
use mathlib.Core.List.{map}
use Prim.Native.Nat.{◌+◌, ◌-◌}
use Rattle.arith.specs.Lists.{from}
use Rattle.rules.specs.Ledger.{order_at}
use Rattle.proposal_check.specs.Legs.{place_of}
use Rattle.proposal_check.proofs.places.place_of.Given as goal

abbrev pub invariant-loop-i : goal.invariant-loop-i
invariant-loop-i l = l.i + place_of l.number (map (order_at l.book) (from l.i (l.count - l.i))) ≡ place_of l.number (map (order_at l.book) (from 0 l.count))
