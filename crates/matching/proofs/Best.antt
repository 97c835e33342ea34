-- The best order is the one of the lowest rank. Assumes nothing.
use mathlib.Core.Path.{◌≡◌, refl, sym, ap, ◌∙◌}
use mathlib.Core.Bool.{Bool, true, false, cond, ◌&&◌}
use mathlib.Core.List.{List, [], ◌∷◌}
use mathlib.Core.Option.{Option, none, some}
use Prim.Native.Nat.{ℕ, zero, suc, ◌+◌, ◌*◌, ◌≤◌, ◌<◌}
use native.Mathlib.Omega.{arith}
use lib.Dec.{ltb}
use lib.ListN.{length, get_or}
use borrow.Author.Tests.{lt-ltb, le-ltb, ne_eqb, lt-leb, leb-false, ltb-true}
use Rattle.arith.specs.Lists.{All}
use Rattle.arith.proofs.Alls.{all_map, all_place}
use Rattle.arith.proofs.Tests.{by_bool, true_or, by_eqb, and_left, and_right}
use Rattle.rules.specs.declared.order.Order.{Order}
use Rattle.rules.specs.declared.order.Side.{Side}
use Rattle.rules.specs.declared.order.Side.TheVariants.{Buy, Sell}
use Rattle.rules.specs.Ranges.{most_price, most_orders, order_numbers_end}
use Rattle.rules.specs.Sides.{other_side}
use Rattle.rules.specs.Matching.{precedes, better, best, opposes, meets_price, meets, with_lots}
use Rattle.order_book.specs.Left.{left_over}
use Rattle.order_priority.specs.Priority.{Ranked, price_rank, rank_of}
use Rattle.order_priority.proofs.Ranks.{precedes_rank, price_below}
use Rattle.matching.specs.Ranks.{no_rank, rank_in, ranks_of, Lowest}
use Rattle.rules.proofs.Sides.{opposing_side}

-- ---- ranks
pub rank_below : (r : Order) → Ranked r → rank_of r < no_rank
unfolding rank_of
rank_below r f = omega (arith, price_below r f)

-- a rank leaves room for a place beside it
pub rank_room : (r : Order) → Ranked r → rank_of r * most_orders + most_orders ≤ no_rank
unfolding rank_of
rank_room r f = omega (arith, price_below r f)

-- A price that does not meet stays so for every order of a higher rank.
module _ (p q m n v : ℕ) (hp : p ≤ most_price) (hq : q ≤ most_price) (hm : m < order_numbers_end) (hn : n < order_numbers_end) where
  far_price : (s : Side) → meets_price s v p ≡ false → price_rank (other_side s) p * order_numbers_end + m ≤ price_rank (other_side s) q * order_numbers_end + n → meets_price s v q ≡ false
  far_price Buy e h = lt-leb q v (omega (arith, leb-false p v e))
  far_price Sell e h = lt-leb v q (omega (arith, leb-false v p e))

pub meets_far : (o a b : Order) → opposes o a ≡ true → opposes o b ≡ true → Ranked a → Ranked b → rank_of a ≤ rank_of b → meets o a ≡ false → meets o b ≡ false
unfolding meets rank_of
meets_far o a b ea eb f g h e =
    far_price a.price.0 b.price.0 a.number b.number o.price.0 f.price g.price f.number g.number o.side e
    (rw (opposing_side o a ea, opposing_side o b eb) at h)

-- ---- the best of a list
module _ (p : Order → Bool) where
  -- the first order, where none of the others precedes it
  pub best_front : (x : Order) (os : List Order) → All (λ y. p y ≡ true → precedes y x ≡ false) os → better x (best p os) ≡ some x
  unfolding best
  best_front x [] h = refl
  best_front x (y ∷ os) h =
      true_or (p y) (λ e. rw e (two (best p os) (h.0 e) (best_front x os h.1))) (λ e. rw e (best_front x os h.1))
    where
      two : (b : Option Order) → precedes y x ≡ false → better x b ≡ some x → better x (better y b) ≡ some x
      two none e f = rw e
      two (some b) e f = by_bool (λ c. better x (cond c (some b) (some y)) ≡ some x) (precedes b y) (λ _. f) (λ _. rw e)

  -- the best of the others, where it precedes the first
  pub best_behind : (x : Order) (os : List Order) (b : Order) → best p os ≡ some b → (p x ≡ true → precedes b x ≡ true) → best p (x ∷ os) ≡ some b
  unfolding best
  best_behind x os b e h = true_or (p x) (λ c. rw (c, e, h c)) (λ c. rw (c, e))

-- ---- by the ranks of what is left
module _ (o : Order) where
  -- no order that is left has a rank below v
  pub all_above : (v : ℕ) (left : List ℕ) (os : List Order) → length left ≡ length os → All Ranked os → ((j : ℕ) → j < length os → v ≤ get_or (ranks_of o left os) j 0)
      → All (λ y. opposes o y ≡ true → (v ≤ rank_of y) × Ranked y) (left_over left os)
  unfolding left_over ranks_of rank_in rank_of opposes
  all_above v [] [] e h f = tt
  all_above v [] (r ∷ rs) e h f = absurd (omega arith)
  all_above v (q ∷ qs) [] e h f = tt
  all_above v (q ∷ qs) (r ∷ rs) e h f =
      let rest = all_above v qs rs (omega arith) h.1 (λ j k. f (suc j) (omega arith)) in
      by_eqb (λ b. All (λ y. opposes o y ≡ true → (v ≤ rank_of y) × Ranked y) (cond b (left_over qs rs) (with_lots q r ∷ left_over qs rs))) q 0 (λ _. rest)
      (λ z. (λ t. (rw (t, lt-ltb 0 q (omega arith)) at (f 0 (omega arith)), record { price = h.0.price; number = h.0.number }), rest))

  pub ranks_length : (left : List ℕ) (os : List Order) → length left ≡ length os → length (ranks_of o left os) ≡ length os
  unfolding ranks_of
  ranks_length [] [] e = refl
  ranks_length [] (r ∷ rs) e = absurd (omega arith)
  ranks_length (q ∷ qs) [] e = refl
  ranks_length (q ∷ qs) (r ∷ rs) e = ap suc (ranks_length qs rs (omega arith))

  -- an order that has a rank opposes and is not used up
  pub live : (q : ℕ) (r : Order) → rank_in o q r < no_rank → (opposes o r ≡ true) × (0 < q) × (rank_in o q r ≡ rank_of r)
  unfolding rank_in
  live q r = by_bool (λ b. cond b (rank_of r) no_rank < no_rank → (opposes o r ≡ true) × (0 < q) × (cond b (rank_of r) no_rank ≡ rank_of r)) (opposes o r && ltb 0 q)
      (λ c h. (and_left (opposes o r) (ltb 0 q) c, ltb-true 0 q (and_right (opposes o r) (ltb 0 q) c), refl)) (λ c h. absurd (omega arith))

  pub rank_live : (q : ℕ) (r : Order) → opposes o r ≡ true → 0 < q → rank_in o q r ≡ rank_of r
  unfolding rank_in
  rank_live q r e h = rw (e, lt-ltb 0 q h)

  pub ranks_at : (z : Order) (left : List ℕ) (os : List Order) (i : ℕ) → length left ≡ length os → i < length os → get_or (ranks_of o left os) i 0 ≡ rank_in o (get_or left i 0) (get_or os i z)
  unfolding ranks_of
  ranks_at z [] [] i e h = absurd (omega arith)
  ranks_at z [] (r ∷ rs) i e h = absurd (omega arith)
  ranks_at z (q ∷ qs) [] i e h = absurd (omega arith)
  ranks_at z (q ∷ qs) (r ∷ rs) zero e h = refl
  ranks_at z (q ∷ qs) (r ∷ rs) (suc i) e h = ranks_at z qs rs i (omega arith) (omega arith)

  -- lots are no part of who opposes and of a rank
  same_opposes : (q : ℕ) (r : Order) → opposes o (with_lots q r) ≡ opposes o r
  unfolding opposes
  same_opposes q r = refl

  ordered : (a b : Order) (p q : ℕ) → opposes o a ≡ true → opposes o b ≡ true → Ranked a → Ranked b → precedes (with_lots p a) (with_lots q b) ≡ ltb (rank_of a) (rank_of b)
  unfolding rank_of
  ordered a b p q ea eb f g =
      precedes_rank (with_lots p a) (with_lots q b) (opposing_side o a ea ∙ sym (opposing_side o b eb)) (record { price = f.price; number = f.number })
      (record { price = g.price; number = g.number })

  -- the order of the lowest rank is the best of those left
  pub best_lowest : (z : Order) (left : List ℕ) (os : List Order) (i : ℕ) → length left ≡ length os → All Ranked os → Lowest (ranks_of o left os) i
      → best (opposes o) (left_over left os) ≡ some (with_lots (get_or left i 0) (get_or os i z))
  unfolding left_over ranks_of best
  best_lowest z [] [] i e h l = absurd (omega (arith, l.below))
  best_lowest z [] (r ∷ rs) i e h l = absurd (omega arith)
  best_lowest z (q ∷ qs) [] i e h l = absurd (omega arith)
  best_lowest z (q ∷ qs) (r ∷ rs) zero e h l =
      let here = live q r l.some in
      let ranks = ranks_length qs rs (omega arith) in
      let rest = all_above (rank_of r) qs rs (omega arith) h.1 (λ j k. rw here.2 at (l.behind (suc j) (omega arith))) in
      rw (ne_eqb q 0 (λ z. omega (arith, here.1)), same_opposes q r, here.0)
      (best_front (opposes o) (with_lots q r) (left_over qs rs)
      (all_map _ _ (left_over qs rs) (λ y f t. ordered y r y.lots.0 q t here.0 (f t).1 h.0 ∙ le-ltb (rank_of y) (rank_of r) (f t).0) rest))
  best_lowest z (q ∷ qs) (r ∷ rs) (suc i) e h l =
      let rank = ranks_at z qs rs i (omega arith) (omega (arith, l.below, ranks_length qs rs (omega arith))) in
      let there = live (get_or qs i 0) (get_or rs i z) (rw rank at l.some) in
      let next = best_lowest z qs rs i (omega arith) h.1
      (record { below = omega (arith, l.below); some = l.some; before = λ j k. l.before (suc j) (omega arith); behind = λ j k. l.behind (suc j) (omega arith) }) in
      by_eqb (λ b. best (opposes o) (cond b (left_over qs rs) (with_lots q r ∷ left_over qs rs)) ≡ some (with_lots (get_or qs i 0) (get_or rs i z))) q 0 (λ _. next)
      (λ n. best_behind (opposes o) (with_lots q r) (left_over qs rs) (with_lots (get_or qs i 0) (get_or rs i z)) next
      (λ u. let t = sym (same_opposes q r) ∙ u in
      ordered (get_or rs i z) r (get_or qs i 0) q there.0 t (all_place Ranked z rs h.1 i (omega (arith, l.below, ranks_length qs rs (omega arith)))) h.0
      ∙ lt-ltb (rank_of (get_or rs i z)) (rank_of r) (rw (rank, there.2, rank_live q r t (omega arith)) at (l.before 0 (omega arith)))))

  none_opposes : (os : List Order) → All (λ y. opposes o y ≡ true → (no_rank ≤ rank_of y) × Ranked y) os → best (opposes o) os ≡ none
  unfolding best
  none_opposes [] h = refl
  none_opposes (y ∷ os) h = true_or (opposes o y) (λ e. absurd (omega (arith, (h.0 e).0, rank_below y (h.0 e).1))) (λ e. rw e (none_opposes os h.1))

  -- where no order has a rank there is no best
  pub best_none : (left : List ℕ) (os : List Order) → length left ≡ length os → All Ranked os → ((j : ℕ) → j < length os → no_rank ≤ get_or (ranks_of o left os) j 0)
      → best (opposes o) (left_over left os) ≡ none
  best_none left os e h f = none_opposes (left_over left os) (all_above no_rank left os e h f)
