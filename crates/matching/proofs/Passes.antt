-- One more order of a pass over the book. Assumes nothing.
use mathlib.Core.Path.{◌≡◌, refl, ap, ◌∙◌}
use mathlib.Core.Bool.{false, cond}
use mathlib.Core.List.{List, [], ◌∷◌, map}
use Prim.Native.Nat.{ℕ, ◌+◌, ◌*◌, ◌≤◌, ◌<◌}
use native.Mathlib.Omega.{arith}
use native.Mathlib.Nat.{zero-add, add-zero}
use lib.ListN.{get_or, length-map}
use Rattle.arith.specs.Lists.{from, total}
use lib.Dec.{eqb}
use Rattle.arith.proofs.Tests.{by_bool, and_false}
use Rattle.rules.specs.Matching.{opposes}
use Rattle.arith.proofs.Appends.{from_length, map_at, from_at}
use Rattle.order_book.proofs.Left.{orders_more, orders_length}
use Rattle.rules.specs.declared.order.Order.{Order}
use Rattle.rules.specs.Ledger.{order_at}
use Rattle.matching.specs.Ranks.{lots_of, rank_in, first_rank}
use Rattle.rules.specs.Ranges.{most_lots}
use Rattle.matching.specs.Crossing.{is_own, crosses, own_lots, crossing_lots, own_in, crossing_in}
use Rattle.tables.specs.Fit.{orders_in}
use Rattle.matching.proofs.Best.{ranks_at}
use Rattle.arith.proofs.Totals.{total_append}

pub total_one : {A : Type 0} (f : A → ℕ) (x : A) → total f (x ∷ []) ≡ f x
unfolding total
total_one f x = add-zero (f x)

module _ (b : List ℕ) where
  pub order_here : (n i : ℕ) (z : Order) → i < n → get_or (orders_in n b) i z ≡ order_at b i
  order_here n i z h = map_at (order_at b) (from 0 n) i 0 z (omega (arith, from_length 0 n)) ∙ ap (order_at b) (from_at 0 n i 0 h ∙ zero-add i)

  module _ (f : Order → ℕ) (i sum : ℕ) (known : sum ≡ total f (orders_in i b)) where
    pub total_next : sum + f (order_at b i) ≡ total f (orders_in (i + 1) b)
    total_next = rw (orders_more b i, total_append f (orders_in i b) (order_at b i ∷ []), total_one f (order_at b i), known)

  -- the columns while nothing is used
  module _ (o : Order) (n i : ℕ) (h : i < n) where
    pub lots_here : get_or (map lots_of (orders_in n b)) i 0 ≡ (order_at b i).lots.0
    lots_here = map_at lots_of (orders_in n b) i (order_at b i) 0 (omega (arith, orders_length b n)) ∙ ap lots_of (order_here n i (order_at b i) h)

    pub rank_here : get_or (first_rank o (orders_in n b)) i 0 ≡ rank_in o (order_at b i).lots.0 (order_at b i)
    rank_here =
        ranks_at o (order_at b i) (map lots_of (orders_in n b)) (orders_in n b) i (length-map (orders_in n b) lots_of) (omega (arith, orders_length b n))
        ∙ rw (lots_here, order_here n i (order_at b i) h)

-- ---- what an incoming order finds among the first i orders
-- nothing in an order of another contract
pub none_found : (o r : Order) → eqb r.contract o.contract ≡ false → (0 ≡ own_lots o r) × (0 ≡ crossing_lots o r)
unfolding own_lots crossing_lots opposes
none_found o r e = (rw (e, and_false (eqb r.member o.member)), rw e)

pub own_most : (o r : Order) → own_lots o r ≤ r.lots.0
unfolding own_lots
own_most o r = by_bool (λ t. cond t r.lots.0 0 ≤ r.lots.0) (is_own o r) (λ _. omega arith) (λ _. omega arith)

pub crossing_most : (o r : Order) → crossing_lots o r ≤ r.lots.0
unfolding crossing_lots
crossing_most o r = by_bool (λ t. cond t r.lots.0 0 ≤ r.lots.0) (crosses o r) (λ _. omega arith) (λ _. omega arith)

pub record Measuring (o : Order) (b : List ℕ) (i own lots : ℕ) : Type 0 where
  pub own_lots_holds : own ≡ own_in o (orders_in i b)
  pub crossing_lots_holds : lots ≡ crossing_in o (orders_in i b)
  pub own_few : own ≤ i * most_lots
  pub crossing_few : lots ≤ i * most_lots

pub measuring_start : (o : Order) (b : List ℕ) → Measuring o b 0 0 0
unfolding own_in crossing_in total from
measuring_start o b = record { own_lots_holds = refl; crossing_lots_holds = refl; own_few = omega arith; crossing_few = omega arith }

pub measuring_next : (o : Order) (b : List ℕ) (i own lots : ℕ) → Measuring o b i own lots → (r : Order) → r ≡ order_at b i → (order_at b i).lots.0 ≤ most_lots
    → (x y : ℕ) → (x ≡ own_lots o r) × (y ≡ crossing_lots o r) → Measuring o b (i + 1) (own + x) (lots + y)
unfolding own_in crossing_in
measuring_next o b i own lots m r e f x y p =
    let here = p.0 ∙ ap (own_lots o) e in
    let there = p.1 ∙ ap (crossing_lots o) e in
    record {
      own_lots_holds = rw here (total_next b (own_lots o) i own m.own_lots_holds);
      crossing_lots_holds = rw there (total_next b (crossing_lots o) i lots m.crossing_lots_holds);
      own_few = omega (arith, m.own_few, own_most o (order_at b i));
      crossing_few = omega (arith, m.crossing_few, crossing_most o (order_at b i));
    }
