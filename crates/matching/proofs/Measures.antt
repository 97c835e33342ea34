-- What matching leads to is known before it: the lots that cross decide what is left, and whether an order leaves. Assumes nothing.
use mathlib.Core.Path.{◌≡◌, refl, ap, ◌∙◌}
use mathlib.Core.Bool.{true, false, cond}
use mathlib.Core.List.{List, [], ◌∷◌}
use Prim.Native.Nat.{ℕ, zero, suc, ◌+◌, ◌-◌, ◌≤◌, ◌<◌, min}
use native.Mathlib.Omega.{arith}
use lib.Dec.{ltb}
use lib.ListN.{length, get_or, set}
use borrow.Author.Tests.{lt-ltb, le-ltb, eq-eqb, ne_eqb}
use Rattle.arith.specs.Lists.{how_many, All}
use Rattle.arith.proofs.Alls.{all_place, all_map}
use Rattle.arith.proofs.Tests.{by_bool, true_or, le_or_lt}
use Rattle.rules.specs.declared.order.Order.{Order}
use Rattle.rules.specs.Matching.{opposes, meets, matched}
use Rattle.matching.specs.declared.deals.Counterparty.{Counterparty}
use Rattle.order_book.specs.Left.{left_over}
use Rattle.order_priority.specs.Priority.{Ranked, rank_of}
use Rattle.matching.specs.Ranks.{no_rank, rank_in, ranks_of, Lowest, crossing}
use Rattle.matching.specs.Crossing.{crosses}
use Rattle.matching.specs.Matching.{Ended}
use Rattle.matching.proofs.Best.{ranks_length, ranks_at, live, rank_live, rank_below, meets_far}
use Rattle.matching.proofs.Running.{Running, ended_full, ended_far, ended_none, running_deal, count_fewer}
use Rattle.rules.proofs.Distinct.{Distinct}

-- ---- the lowest rank of a list, if there is one
pub data Found (ranks : List ℕ) : Type 0 where
  nowhere : ((j : ℕ) → j < length ranks → no_rank ≤ get_or ranks j 0) → Found ranks
  lowest : (i : ℕ) → Lowest ranks i → Found ranks

at_front : (r : ℕ) (ranks : List ℕ) → r < no_rank → ((j : ℕ) → j < length ranks → r ≤ get_or ranks j 0) → Lowest (r ∷ ranks) 0
at_front r ranks h f = record { below = omega arith; some = h; before = λ j k. absurd (omega arith); behind = λ j k. all j k }
  where
    all : (j : ℕ) → j < suc (length ranks) → r ≤ get_or (r ∷ ranks) j 0
    all zero k = omega arith
    all (suc j) k = f j (omega arith)

further : (r : ℕ) (ranks : List ℕ) (i : ℕ) → Lowest ranks i → get_or ranks i 0 < r → Lowest (r ∷ ranks) (suc i)
further r ranks i l h = record { below = omega (arith, l.below); some = l.some; before = λ j k. first j k; behind = λ j k. all j k }
  where
    first : (j : ℕ) → j < suc i → get_or ranks i 0 < get_or (r ∷ ranks) j 0
    first zero k = h
    first (suc j) k = l.before j (omega arith)

    all : (j : ℕ) → j < suc (length ranks) → get_or ranks i 0 ≤ get_or (r ∷ ranks) j 0
    all zero k = omega arith
    all (suc j) k = l.behind j (omega arith)

pub found : (ranks : List ℕ) → Found ranks
found [] = nowhere (λ j k. absurd (omega arith))
found (r ∷ ranks) = go (found ranks)
  where
    none_yet : no_rank ≤ r → ((j : ℕ) → j < length ranks → no_rank ≤ get_or ranks j 0) → (j : ℕ) → j < suc (length ranks) → no_rank ≤ get_or (r ∷ ranks) j 0
    none_yet h f zero k = h
    none_yet h f (suc j) k = f j (omega arith)

    go : Found ranks → Found (r ∷ ranks)
    go (nowhere f) = le_or_lt no_rank r (λ h. nowhere (none_yet h f)) (λ h. lowest 0 (at_front r ranks h (λ j k. omega (arith, f j k))))
    go (lowest i l) = le_or_lt r (get_or ranks i 0) (λ h. lowest 0 (at_front r ranks (omega (arith, l.some)) (λ j k. omega (arith, l.behind j k))))
        (λ h. lowest (suc i) (further r ranks i l h))

-- ---- the lots that cross
module _ (o : Order) where
  -- none, where every order with a rank of v or more is too far
  crossing_none : (v : ℕ) (left : List ℕ) (os : List Order) → length left ≡ length os → ((j : ℕ) → j < length os → v ≤ get_or (ranks_of o left os) j 0)
      → All (λ r. opposes o r ≡ true → v ≤ rank_of r → meets o r ≡ false) os → crossing o left os ≡ 0
  unfolding crossing ranks_of
  crossing_none v [] os e f h = refl
  crossing_none v (q ∷ qs) [] e f h = refl
  crossing_none v (q ∷ qs) (r ∷ rs) e f h =
      let rest = crossing_none v qs rs (omega arith) (λ j k. f (suc j) (omega arith)) h.1 in
      rw rest (go q refl (f 0 (omega arith)))
    where
      go : (p : ℕ) → q ≡ p → v ≤ rank_in o q r → cond (crosses o r) q 0 + 0 ≡ 0
      go zero s g = rw s (by_bool (λ b. cond b 0 0 + 0 ≡ 0) (crosses o r) (λ _. refl) (λ _. refl))
      go (suc p) s g = true_or (opposes o r) (λ t. rw (t, h.0 t (rw (rank_live o q r t (omega arith)) at g)) refl) (λ t. rw t refl)

  -- lots used of an order that crosses are so many fewer
  crossing_used : (z : Order) (left : List ℕ) (os : List Order) (i q : ℕ) → length left ≡ length os → i < length os → crosses o (get_or os i z) ≡ true → q ≤ get_or left i 0
      → crossing o (set left i (get_or left i 0 - q)) os + q ≡ crossing o left os
  unfolding crossing
  crossing_used z [] [] i q e h c l = absurd (omega arith)
  crossing_used z [] (r ∷ rs) i q e h c l = absurd (omega arith)
  crossing_used z (p ∷ ps) [] i q e h c l = absurd (omega arith)
  crossing_used z (p ∷ ps) (r ∷ rs) zero q e h c l = rw c (omega arith)
  crossing_used z (p ∷ ps) (r ∷ rs) (suc i) q e h c l = omega (arith, crossing_used z ps rs i q (omega arith) (omega arith) c l)

-- ---- how many orders are left
pub left_count : (left : List ℕ) (os : List Order) → length left ≡ length os → length (left_over left os) ≡ how_many (ltb 0) left
unfolding left_over how_many
left_count [] [] e = refl
left_count [] (r ∷ rs) e = absurd (omega arith)
left_count (q ∷ qs) [] e = absurd (omega arith)
left_count (q ∷ qs) (r ∷ rs) e =
    le_or_lt q 0 (λ g. rw (eq-eqb q 0 (omega arith), le-ltb 0 q g) (left_count qs rs (omega arith) ∙ omega arith))
    (λ g. rw (ne_eqb q 0 (λ z. omega arith), lt-ltb 0 q g) (omega (arith, left_count qs rs (omega arith))))

count_part : (l : List ℕ) (i p : ℕ) → i < length l → 0 < get_or l i 0 → 0 < p → how_many (ltb 0) (set l i p) ≡ how_many (ltb 0) l
unfolding how_many
count_part [] i p h n k = absurd (omega arith)
count_part (q ∷ l) zero p h n k = rw (lt-ltb 0 q n, lt-ltb 0 p k)
count_part (q ∷ l) (suc i) p h n k = ap (λ m. cond (ltb 0 q) 1 0 + m) (count_part l i p (omega arith) n k)

-- ---- what is left
module _ (o : Order) (os : List Order) (z : Order) (h : All Ranked os) (d : Distinct os) where
  -- all of it where no order is met
  far_none : (left : List ℕ) → length left ≡ length os → ((j : ℕ) → j < length (ranks_of o left os) → no_rank ≤ get_or (ranks_of o left os) j 0) → crossing o left os ≡ 0
  far_none left e f =
      crossing_none o no_rank left os e (λ j k. f j (rw (ranks_length o left os e) k))
      (all_map Ranked _ os (λ r g t k. absurd (omega (arith, rank_below r g))) h)

  far_all : (left : List ℕ) (i : ℕ) → length left ≡ length os → Lowest (ranks_of o left os) i → meets o (get_or os i z) ≡ false → crossing o left os ≡ 0
  far_all left i e l m =
      let place : i < length os = omega (arith, l.below, ranks_length o left os e) in
      let rank = ranks_at o z left os i e place in
      let alive = live o (get_or left i 0) (get_or os i z) (rw rank at l.some) in
      crossing_none o (rank_of (get_or os i z)) left os e (λ j k. rw (rank, alive.2) at (l.behind j (rw (ranks_length o left os e) k)))
      (all_map Ranked _ os (λ r g t k. meets_far o (get_or os i z) r alive.0 t (all_place Ranked z os h i place) g k m) h)

  -- what the lots that cross tell of where matching leads
  pub record Measured (left : List ℕ) (x : ℕ) : Type 0 where
    pub lots : (matched o os).left ≡ x - crossing o left os
    pub most : length (matched o os).resting ≤ how_many (ltb 0) left
    pub fewer : 0 < crossing o left os → 0 < (matched o os).left → length (matched o os).resting < how_many (ltb 0) left

  -- the order of the lowest rank is one of them, opposes and is not used up
  met_place : (left : List ℕ) → length left ≡ length os → (i : ℕ) → Lowest (ranks_of o left os) i → i < length os
  met_place left e i l = omega (arith, l.below, ranks_length o left os e)

  met : (left : List ℕ) → length left ≡ length os → (i : ℕ) → Lowest (ranks_of o left os) i → (opposes o (get_or os i z) ≡ true) × (0 < get_or left i 0)
  met left e i l =
      let alive = live o (get_or left i 0) (get_or os i z) (rw (ranks_at o z left os i e (met_place left e i l)) at l.some) in
      (alive.0, alive.1)

  -- where no lots cross nothing is dealt
  pub untouched : (left : List ℕ) (x : ℕ) (ds : List Counterparty) → Running o os left x ds → crossing o left os ≡ 0 → Ended o os left x ds
  untouched left x ds r e = go (found (ranks_of o left os))
    where
      go : Found (ranks_of o left os) → Ended o os left x ds
      go (nowhere f) = ended_none o os left x ds r h f
      go (lowest i l) =
          true_or (meets o (get_or os i z))
          (λ m. let alive = met left r.sized i l in
          absurd (omega (arith, alive.1, crossing_used o z left os i (get_or left i 0) r.sized (met_place left r.sized i l) (rw alive.0 m) (omega arith))))
          (λ m. ended_far o os left x ds r z i h l m)

  at_end_lem : (left : List ℕ) (x : ℕ) (ds : List Counterparty) → length left ≡ length os → Ended o os left x ds → (0 < x → crossing o left os ≡ 0) → Measured left x
  at_end_lem left x ds e f n =
      record {
        lots = f.lots ∙ le_or_lt x 0 (λ g. omega arith) (λ g. omega (arith, n g));
        most = omega (arith, ap length f.resting, left_count left os e);
        fewer = λ c g. absurd (omega (arith, f.lots, n (omega (arith, f.lots))));
      }

  -- with one deal more
  deal_measured : (x : ℕ) → 0 < x → (left : List ℕ) (ds : List Counterparty) (r : Running o os left x ds) (i : ℕ) → Lowest (ranks_of o left os) i → meets o (get_or os i z) ≡ true
      → Measured (set left i (get_or left i 0 - min x (get_or left i 0))) (x - min x (get_or left i 0)) → Measured left x
  deal_measured x g left ds r i l m next =
      let q = min x (get_or left i 0) in
      let alive = met left r.sized i l in
      let place = met_place left r.sized i l in
      let cross = crossing_used o z left os i q r.sized place (rw alive.0 m) (omega arith) in
      let down = count_fewer left i (omega (arith, r.sized)) alive.1 in
      record {
        lots = omega (arith, next.lots);
        most = le_or_lt (get_or left i 0) x (λ u. let up : get_or left i 0 - q ≡ 0 = omega arith in omega (arith, rw up at next.most))
            (λ u. let part : 0 < get_or left i 0 - q = omega arith in omega (arith, next.most, count_part left i (get_or left i 0 - q) (omega (arith, r.sized)) alive.1 part));
        fewer = λ c f. let up : get_or left i 0 - q ≡ 0 = omega (arith, next.lots) in omega (arith, rw up at next.most);
      }

  pub measured : (n x : ℕ) → x ≤ n → (left : List ℕ) (ds : List Counterparty) → Running o os left x ds → Measured left x
  measured zero x b left ds r = at_end_lem left x ds r.sized (ended_full o os left x ds r (omega arith)) (λ g. absurd (omega arith))
  measured (suc n) x b left ds r = le_or_lt x 0 (λ g. at_end_lem left x ds r.sized (ended_full o os left x ds r (omega arith)) (λ f. absurd (omega arith)))
      (λ g. go g (λ i l m. measured n (x - min x (get_or left i 0)) (smaller i l) _ _ (running_deal o os left x ds r z i (min x (get_or left i 0)) h d l m g refl)) (found (ranks_of o left os)))
    where
      smaller : (i : ℕ) → Lowest (ranks_of o left os) i → x - min x (get_or left i 0) ≤ n
      smaller i l = omega (arith, (met left r.sized i l).1)

      go : 0 < x → ((i : ℕ) → Lowest (ranks_of o left os) i → meets o (get_or os i z) ≡ true → Measured (set left i (get_or left i 0 - min x (get_or left i 0))) (x - min x (get_or left i 0)))
          → Found (ranks_of o left os) → Measured left x
      go g ih (nowhere f) = at_end_lem left x ds r.sized (ended_none o os left x ds r h f) (λ _. far_none left r.sized f)
      go g ih (lowest i l) =
          true_or (meets o (get_or os i z)) (λ m. deal_measured x g left ds r i l m (ih i l m))
          (λ m. at_end_lem left x ds r.sized (ended_far o os left x ds r z i h l m) (λ _. far_all left i r.sized l m))
