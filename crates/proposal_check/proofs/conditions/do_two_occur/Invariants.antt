use mathlib.Core.Path.{◌≡◌}
use mathlib.Core.Bool.{not, ◌||◌}
use Prim.Native.Nat.{◌+◌, ◌*◌}
use lib.Dec.{eqb}
use lib.ListN.{get_or, drop}
use Rattle.rules.specs.Ledger.{order_width}
use Rattle.arith.specs.Lists.{any}
use Rattle.proposal_check.proofs.conditions.do_two_occur.Given as goal

abbrev pub invariant-loop-place : goal.invariant-loop-place
invariant-loop-place l =
    l.found || any (λ p. not (eqb (get_or l.book (p * order_width + l.field) 0) l.first)) (drop l.place-index l.places)
    ≡ any (λ p. not (eqb (get_or l.book (p * order_width + l.field) 0) l.first)) l.places
