-- Orders of which no two share a number: the test says it of each two. Assumes nothing.
use Prim.Native.Nat.{ℕ}
use mathlib.Core.Path.{◌≡◌}
use mathlib.Core.Bool.{true, false, not}
use mathlib.Core.List.{List, [], ◌∷◌, map}
use lib.Dec.{eqb}
use borrow.Author.Tests.{not-true}
use Rattle.arith.specs.Lists.{any, All}
use Rattle.arith.proofs.Tests.{or_left, or_right, and_left, and_right}
use Rattle.rules.specs.declared.order.Order.{Order}
use Rattle.rules.specs.Refusals.{distinct}

abbrev pub Distinct : List Order → Type 0
Distinct [] = Unit {0}
Distinct (o ∷ os) = All (λ x. eqb o.number x.number ≡ false) os × Distinct os

none_same : (n : ℕ) (os : List Order) → any (eqb n) (map (λ o. o.number) os) ≡ false → All (λ x. eqb n x.number ≡ false) os
unfolding any
none_same n [] e = tt
none_same n (o ∷ os) e =
    let b = any (eqb n) (map (λ o. o.number) os) in
    (or_left (eqb n o.number) b e, none_same n os (or_right (eqb n o.number) b e))

pub distinct_orders : (os : List Order) → distinct (map (λ o. o.number) os) ≡ true → Distinct os
unfolding distinct
distinct_orders [] e = tt
distinct_orders (o ∷ os) e =
    let ns = map (λ o. o.number) os in
    let b = any (eqb o.number) ns in
    (none_same o.number os (not-true b (and_left (not b) (distinct ns) e)), distinct_orders os (and_right (not b) (distinct ns) e))
