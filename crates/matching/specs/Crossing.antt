-- What an incoming order finds among resting ones: its member's own lots on its side, and the lots that cross.
use Rattle.std.specs.Prelude.{ℕ, Bool, cond, ◌&&◌, List, eqb}
use Rattle.arith.specs.Lists.{total}
use Rattle.rules.specs.declared.order.Order.{Order}
use Rattle.rules.specs.Sides.{same_side}
use Rattle.rules.specs.Matching.{opposes, meets}

abbrev pub is_own : Order → Order → Bool
is_own o r = eqb r.member o.member && (eqb r.contract o.contract && same_side r.side o.side)

unfoldable pub own_lots : Order → Order → ℕ
own_lots o r = cond (is_own o r) r.lots.0 0

unfoldable pub own_in : Order → List Order → ℕ
own_in o os = total (own_lots o) os

-- The resting order opposes the incoming one, at a price that meets it.
abbrev pub crosses : Order → Order → Bool
crosses o r = opposes o r && meets o r

unfoldable pub crossing_lots : Order → Order → ℕ
crossing_lots o r = cond (crosses o r) r.lots.0 0

unfoldable pub crossing_in : Order → List Order → ℕ
crossing_in o os = total (crossing_lots o) os
