-- How far matching has come, and one deal more. Assumes nothing.
use mathlib.Core.Path.{◌≡◌, refl, sym, ap, ◌∙◌}
use mathlib.Core.Bool.{true, false}
use mathlib.Core.List.{List, [], ◌∷◌, ◌++◌, map, append_assoc, append-nil}
use Prim.Native.Nat.{ℕ, zero, suc, ◌+◌, ◌-◌, ◌≤◌, ◌<◌, min}
use native.Mathlib.Omega.{arith}
use lib.Dec.{ltb}
use lib.ListN.{length, get_or, set, length-set, length-map}
use borrow.Author.Tests.{lt-ltb, ne_eqb}
use Rattle.arith.specs.Lists.{how_many, All}
use Rattle.arith.proofs.Tests.{true_or}
use Rattle.rules.specs.declared.order.Order.{Order}
use Rattle.rules.specs.Matching.{best, opposes, meets, with_lots, stopped, after_deal, matching, matched}
use Rattle.matching.specs.declared.deals.Counterparty.{Counterparty}
use Rattle.order_book.specs.Left.{left_over}
use Rattle.order_priority.specs.Priority.{Ranked, rank_of}
use Rattle.matching.specs.Ranks.{no_rank, rank_in, ranks_of, lots_of, Lowest}
use Rattle.matching.specs.Deals.{counterparty, counterparty_of}
use Rattle.matching.specs.Matching.{Ended}
use Rattle.matching.proofs.Best.{best_lowest, best_none, ranks_length, ranks_at, live}
use Rattle.matching.proofs.Used.{used_left, stops_empty, stops_none, stops_far, deals_best}
use Rattle.rules.proofs.Distinct.{Distinct}

-- ---- the column of lots left

pub count_most : (l : List ℕ) → how_many (ltb 0) l ≤ length l
unfolding how_many
count_most [] = omega arith
count_most (q ∷ l) = true_or (ltb 0 q) (λ e. rw e (omega (arith, count_most l))) (λ e. rw e (omega (arith, count_most l)))

-- an order used up is one fewer
pub count_fewer : (l : List ℕ) (i : ℕ) → i < length l → 0 < get_or l i 0 → how_many (ltb 0) (set l i 0) + 1 ≡ how_many (ltb 0) l
unfolding how_many
count_fewer [] i h n = absurd (omega arith)
count_fewer (q ∷ l) zero h n = rw (lt-ltb 0 q n) (omega arith)
count_fewer (q ∷ l) (suc i) h n = omega (arith, count_fewer l i (omega arith) n)

count_some : (l : List ℕ) (i : ℕ) → i < length l → 0 < get_or l i 0 → 0 < how_many (ltb 0) l
count_some l i h n = omega (arith, count_fewer l i h n)

-- ---- lots are no part of who opposes
same_best : (x : ℕ) (o : Order) (os : List Order) → best (opposes (with_lots x o)) os ≡ best (opposes o) os
unfolding opposes
same_best x o os = refl

same_meets : (x : ℕ) (o : Order) (q : ℕ) (r : Order) → meets (with_lots x o) (with_lots q r) ≡ meets o r
unfolding meets
same_meets x o q r = refl

-- ---- ranks after lots are used
pub ranks_set : (o z : Order) (left : List ℕ) (os : List Order) (i p : ℕ) → length left ≡ length os → i < length os
    → ranks_of o (set left i p) os ≡ set (ranks_of o left os) i (rank_in o p (get_or os i z))
unfolding ranks_of
ranks_set o z [] [] i p e h = absurd (omega arith)
ranks_set o z [] (r ∷ rs) i p e h = absurd (omega arith)
ranks_set o z (q ∷ qs) [] i p e h = absurd (omega arith)
ranks_set o z (q ∷ qs) (r ∷ rs) zero p e h = refl
ranks_set o z (q ∷ qs) (r ∷ rs) (suc i) p e h = ap (λ l. rank_in o q r ∷ l) (ranks_set o z qs rs i p (omega arith) (omega arith))

-- ---- from the whole of matching to what is left of it
pub record Running (o : Order) (os : List Order) (left : List ℕ) (x : ℕ) (ds : List Counterparty) : Type 0 where
  pub fuel : ℕ
  pub sized : length left ≡ length os
  pub enough : 0 < x → how_many (ltb 0) left ≤ fuel
  pub deals : map counterparty_of (matched o os).deals ≡ ds ++ map counterparty_of (matching fuel (with_lots x o) (left_over left os)).deals
  pub lots : (matched o os).left ≡ (matching fuel (with_lots x o) (left_over left os)).left
  pub resting : (matched o os).resting ≡ (matching fuel (with_lots x o) (left_over left os)).resting

module _ (o : Order) (os : List Order) (left : List ℕ) (x : ℕ) (ds : List Counterparty) (r : Running o os left x ds) where
  ends : matching r.fuel (with_lots x o) (left_over left os) ≡ stopped (with_lots x o) (left_over left os) → Ended o os left x ds
  ends e =
      record {
        deals = r.deals ∙ ap (λ m. ds ++ map counterparty_of m.deals) e ∙ append-nil ds;
        lots = r.lots ∙ ap (λ m. m.left) e;
        resting = r.resting ∙ ap (λ m. m.resting) e;
      }

  pub ended_full : x ≡ 0 → Ended o os left x ds
  ended_full e = ends (ap (λ n. matching r.fuel (with_lots n o) (left_over left os)) e ∙ stops_empty o (left_over left os) r.fuel ∙ ap
      (λ n. stopped (with_lots n o) (left_over left os)) (sym e))

  pub ended_far : (z : Order) (i : ℕ) → All Ranked os → Lowest (ranks_of o left os) i → meets o (get_or os i z) ≡ false → Ended o os left x ds
  ended_far z i h l e =
      ends (stops_far (with_lots x o) (left_over left os) r.fuel (with_lots (get_or left i 0) (get_or os i z))
      (same_best x o (left_over left os) ∙ best_lowest o z left os i r.sized h l) (same_meets x o (get_or left i 0) (get_or os i z) ∙ e))

  pub ended_none : All Ranked os → ((j : ℕ) → j < length (ranks_of o left os) → no_rank ≤ get_or (ranks_of o left os) j 0) → Ended o os left x ds
  ended_none h f =
      ends (stops_none (with_lots x o) (left_over left os) r.fuel
      (same_best x o (left_over left os) ∙ best_none o left os r.sized h (λ j k. f j (rw (ranks_length o left os r.sized) k))))

  -- a deal with the order of the lowest rank
  module _ (z : Order) (i q : ℕ) (h : All Ranked os) (d : Distinct os) (l : Lowest (ranks_of o left os) i) (e : meets o (get_or os i z) ≡ true) (n : 0 < x) (s : q ≡ min x (get_or left i 0)) where
    place : i < length os
    place = omega (arith, l.below, ranks_length o left os r.sized)

    alive : (opposes o (get_or os i z) ≡ true) × (0 < get_or left i 0) × (rank_in o (get_or left i 0) (get_or os i z) ≡ rank_of (get_or os i z))
    alive = live o (get_or left i 0) (get_or os i z) (rw (ranks_at o z left os i r.sized place) at l.some)

    abbrev left' : List ℕ
    left' = set left i (get_or left i 0 - q)

    step : (k : ℕ) → matching (suc k) (with_lots x o) (left_over left os)
        ≡ after_deal (record { resting = with_lots (get_or left i 0) (get_or os i z); lots = q }) (matching k (with_lots (x - q) o) (left_over left' os))
    step k =
        deals_best (with_lots x o) (left_over left os) k (with_lots (get_or left i 0) (get_or os i z)) (same_best x o (left_over left os) ∙ best_lowest o z left os i r.sized h l)
        (same_meets x o (get_or left i 0) (get_or os i z) ∙ e) n q s
        ∙ ap (λ l. after_deal (record { resting = with_lots (get_or left i 0) (get_or os i z); lots = q }) (matching k (with_lots (x - q) o) l))
        (used_left z left os i q r.sized d place alive.1 (omega arith))

    pub running_deal : Running o os left' (x - q) (ds ++ (counterparty (get_or os i z) q ∷ []))
    running_deal = go r.fuel refl
      where
        go : (k : ℕ) → r.fuel ≡ k → Running o os left' (x - q) (ds ++ (counterparty (get_or os i z) q ∷ []))
        go zero f = absurd (omega (arith, r.enough n, count_some left i (omega (arith, r.sized, place)) alive.1))
        go (suc k) f =
            let now = ap (λ j. matching j (with_lots x o) (left_over left os)) f ∙ step k in
            record {
              fuel = k;
              sized = length-set left i _ ∙ r.sized;
              enough = λ m. let up : get_or left i 0 - q ≡ 0 = omega arith in rw up (omega (arith, r.enough n, count_fewer left i (omega (arith, r.sized, place)) alive.1));
              deals = r.deals ∙ ap (λ m. ds ++ map counterparty_of m.deals) now ∙ sym (append_assoc ds (counterparty (get_or os i z) q ∷ []) _);
              lots = r.lots ∙ ap (λ m. m.left) now;
              resting = r.resting ∙ ap (λ m. m.resting) now;
            }

-- ---- the start: nothing is used yet
pub left_all : (os : List Order) → All (λ o. 0 < lots_of o) os → left_over (map lots_of os) os ≡ os
unfolding left_over
left_all [] h = refl
left_all (o ∷ os) h = rw (ne_eqb o.lots.0 0 (λ e. omega (arith, h.0))) (ap (λ l. o ∷ l) (left_all os h.1))

pub running_start : (o : Order) (os : List Order) → All (λ r. 0 < lots_of r) os → Running o os (map lots_of os) o.lots.0 []
unfolding matched
running_start o os h =
    let same = ap (λ l. matching (length os) o l) (sym (left_all os h)) in
    record {
      fuel = length os;
      sized = length-map os lots_of;
      enough = λ _. omega (arith, count_most (map lots_of os), length-map os lots_of);
      deals = ap (λ m. map counterparty_of m.deals) same;
      lots = ap (λ m. m.left) same;
      resting = ap (λ m. m.resting) same;
    }
