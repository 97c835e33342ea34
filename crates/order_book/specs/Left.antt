-- The orders that are left in a book: what is left of each stands in a column, and where nothing is left the order leaves.
use Rattle.std.specs.Prelude.{ℕ, ◌≡◌, Bool, cond, ◌&&◌, List, [], ◌∷◌, map, eqb}
use Rattle.rules.specs.declared.order.Order.{Order}
use Rattle.rules.specs.Matching.{with_lots}
use Rattle.order_book.specs.declared.leaving.Leaving.{Leaving}
use Rattle.order_book.specs.declared.leaving.Leaving.TheVariants.{Numbered, OfMember}

-- The orders with these lots left of them. A remainder keeps its number and its place in priority. Orders past the column stay
-- as they are; numbers past the orders are not used.
unfoldable pub left_over : List ℕ → List Order → List Order
left_over [] os = os
left_over (q ∷ qs) [] = []
left_over (q ∷ qs) (o ∷ os) = let rest = left_over qs os in cond (eqb q 0) rest (with_lots q o ∷ rest)

abbrev pub leaves : Leaving → Order → Bool
leaves (Numbered n m) o = eqb o.number n && eqb o.member m
leaves (OfMember m) o = eqb o.member m

-- A call answers whether an order passes a test.
abbrev pub Tests : (Order → Bool → Type 0) → (Order → Bool) → Type 0
Tests post p = (o : Order) (b : Bool) → post o b → b ≡ p o

-- What is left of each where those that pass a test leave.
unfoldable pub staying : (Order → Bool) → List Order → List ℕ
staying p os = map (λ o. cond (p o) 0 o.lots.0) os
