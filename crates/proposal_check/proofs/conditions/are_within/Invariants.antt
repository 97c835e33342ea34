use mathlib.Core.Path.{◌≡◌}
use mathlib.Core.Bool.{◌&&◌}
use mathlib.Core.List.{map}
use Prim.Native.Nat.{◌-◌}
use lib.ListN.{length}
use Rattle.arith.specs.Lists.{every, from}
use Rattle.rules.specs.Ledger.{Tables, with_prices}
use Rattle.rules.specs.Synthetic.{has_lots, price_allowed}
use Rattle.proposal_check.specs.Legs.{named_at, named_to}
use Rattle.proposal_check.proofs.conditions.are_within.Given as goal

abbrev pub invariant-loop-i : goal.invariant-loop-i
invariant-loop-i l =
    (t : Tables) → l.ok && every (λ n. has_lots n && price_allowed (with_prices l.prices t) n) (map (named_at l.book l.places l.legs) (from l.i (length l.legs - l.i)))
    ≡ every (λ n. has_lots n && price_allowed (with_prices l.prices t) n) (named_to l.book l.places l.legs)
