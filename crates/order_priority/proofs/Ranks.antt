-- The order of lower rank precedes. Assumes nothing.
use mathlib.Core.Path.{◌≡◌, sym, ap, ◌∙◌}
use mathlib.Core.Bool.{Bool, ◌&&◌, ◌||◌}
use Prim.Native.Nat.{ℕ, ◌+◌, ◌*◌, ◌-◌, ◌≤◌, ◌<◌}
use native.Mathlib.Omega.{arith}
use lib.Dec.{eqb, ltb}
use borrow.Author.Tests.{lt-ltb, le-ltb, eq-eqb, ne_eqb}
use Rattle.arith.proofs.Tests.{le_or_lt, same_ltb}
use Rattle.rules.specs.declared.order.Order.{Order}
use Rattle.rules.specs.declared.order.Side.{Side}
use Rattle.rules.specs.declared.order.Side.TheVariants.{Buy, Sell}
use Rattle.rules.specs.Ranges.{most_price, order_numbers_end}
use Rattle.rules.specs.Matching.{better_price, precedes}
use Rattle.order_priority.specs.Priority.{Ranked, price_rank, rank_of}

module _ (p q m n : ℕ) (hp : p ≤ most_price) (hq : q ≤ most_price) (hm : m < order_numbers_end) (hn : n < order_numbers_end) where
  -- both tests by the order of the prices, and of the numbers where the prices are the same
  by_order : (x y : ℕ) (b : Bool) → (p < q → ltb x y ≡ b) → (q < p → ltb x y ≡ b) → (p ≡ q → ltb x y ≡ b) → b ≡ ltb x y
  by_order x y b f g h = le_or_lt p q (λ k. le_or_lt q p (λ l. sym (h (omega arith))) (λ l. sym (f l))) (λ k. sym (g k))

  rank_order : (s : Side) → (better_price s p q || eqb p q && ltb m n) ≡ ltb (price_rank s p * order_numbers_end + m) (price_rank s q * order_numbers_end + n)
  rank_order Buy =
      let x = (most_price - p) * order_numbers_end + m in
      let y = (most_price - q) * order_numbers_end + n in
      by_order x y (ltb q p || eqb p q && ltb m n)
      (λ k. rw (le-ltb q p (omega arith), ne_eqb p q (λ e. omega arith)) (le-ltb x y (omega arith)))
      (λ k. rw (lt-ltb q p k) (lt-ltb x y (omega arith)))
      (λ e. rw (le-ltb q p (omega arith), eq-eqb p q e) (same_ltb x y m n (λ k. omega arith) (λ k. omega arith)))
  rank_order Sell =
      let x = p * order_numbers_end + m in
      let y = q * order_numbers_end + n in
      by_order x y (ltb p q || eqb p q && ltb m n)
      (λ k. rw (lt-ltb p q k) (lt-ltb x y (omega arith)))
      (λ k. rw (le-ltb p q (omega arith), ne_eqb p q (λ e. omega arith)) (le-ltb x y (omega arith)))
      (λ e. rw (le-ltb p q (omega arith), eq-eqb p q e) (same_ltb x y m n (λ k. omega arith) (λ k. omega arith)))

-- Of two orders of one side the one of lower rank precedes.
pub precedes_rank : (a b : Order) → a.side ≡ b.side → Ranked a → Ranked b → precedes a b ≡ ltb (rank_of a) (rank_of b)
unfolding precedes rank_of
precedes_rank a b e f g =
    rank_order a.price.0 b.price.0 a.number b.number f.price g.price f.number g.number a.side
    ∙ ap (λ s. ltb (price_rank a.side a.price.0 * order_numbers_end + a.number) (price_rank s b.price.0 * order_numbers_end + b.number)) e

pub price_below : (r : Order) → Ranked r → (price_rank r.side r.price.0 ≤ most_price) × (r.number < order_numbers_end)
price_below r f = go r.side
  where
    go : (s : Side) → (price_rank s r.price.0 ≤ most_price) × (r.number < order_numbers_end)
    go Buy = (omega arith, f.number)
    go Sell = (f.price, f.number)
