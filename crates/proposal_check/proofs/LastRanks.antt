-- An order is ahead of a leg exactly if its rank is below the last one of its contract and side. Assumes nothing.
use mathlib.Core.Path.{◌≡◌, refl, sym, ap, ◌∙◌}
use mathlib.Core.Bool.{Bool, true, not, ◌&&◌, ◌||◌}
use mathlib.Core.List.{List, [], ◌∷◌}
use Prim.Native.Nat.{ℕ, suc, ◌+◌, ◌<◌, ◌≤◌, max}
use native.Mathlib.Omega.{arith}
use lib.Dec.{eqb, ltb}
use lib.ListN.{length, get_or, set, drop, replicate, length-replicate, get_or-replicate, length-set}
use lib.Seq.{get_or-set_same, get_or-set_other}
use borrow.Author.Tests.{lt-ltb, le-ltb, eq-eqb, ne_eqb}
use Rattle.arith.specs.Lists.{any, every, from}
use Rattle.arith.proofs.Tests.{same_or, le_or_lt, and_false, or_false, any_next, any_end}
use Rattle.arith.proofs.Scans.{every_map}
use Rattle.rules.specs.declared.event.Leg.{Leg}
use Rattle.rules.specs.declared.order.Order.{Order}
use Rattle.rules.specs.declared.order.Side.{Side}
use Rattle.rules.specs.declared.order.Side.TheVariants.{Buy, Sell}
use Rattle.rules.specs.Sides.{same_side}
use Rattle.rules.specs.Matching.{precedes}
use Rattle.rules.specs.Ledger.{order_at}
use Rattle.tables.specs.Fit.{HeadFit, BookFit, orders_in, order_count_in}
use Rattle.order_priority.specs.Priority.{Ranked, rank_of}
use Rattle.order_priority.proofs.Ranks.{precedes_rank}
use Rattle.proposal_check.specs.Legs.{PlacesFit, is_before, is_ahead, is_full_leg}
use Rattle.proposal_check.specs.SidePlaces.{side_places, side_place_of}
use Rattle.proposal_check.specs.LastRanks.{OrdersRanked, LegsRanked, LastRanks, is_behind, kept_by}
use Rattle.proposal_check.proofs.Lists.{each_same}
use Rattle.proposal_check.proofs.SidePlaces.{side_below, place_same}

-- ---- leg by leg
below_larger : (x a b : ℕ) → ltb x (max a b) ≡ ltb x a || ltb x b
below_larger x a b =
    le_or_lt (max a b) x
    (λ h. rw (le-ltb x (max a b) h, le-ltb x a (omega arith), le-ltb x b (omega arith)))
    (λ h. rw (lt-ltb x (max a b) h) (le_or_lt a x (λ k. rw (le-ltb x a k, lt-ltb x b (omega arith))) (λ k. rw (lt-ltb x a k))))

module _ (book places : List ℕ) where
  -- The last ranks of the first i legs; the others are still to come.
  pub record LastRanksTo (i : ℕ) (lasts : List ℕ) : Type 0 where
    pub long : length lasts ≡ side_places
    pub last : (k x : ℕ) → k < side_places → ltb x (get_or lasts k 0) || any (is_behind book k x) (drop i places) ≡ any (is_behind book k x) places

  pub lasts_start : LastRanksTo 0 (replicate side_places 0)
  lasts_start = record { long = length-replicate {A = ℕ} side_places 0; last = λ k x h. rw (get_or-replicate {A = ℕ} side_places k 0 0 h, le-ltb x 0 (omega arith)) }

  pub lasts_next : (i at r : ℕ) (lasts : List ℕ) → LastRanksTo i lasts → i < length places → at ≡ side_place_of (order_at book (get_or places i 0)) → at < side_places
      → r ≡ rank_of (order_at book (get_or places i 0)) → LastRanksTo (i + 1) (set lasts at (max (get_or lasts at 0) r))
  lasts_next i at r lasts s h e b f =
      record {
        long = length-set lasts at _ ∙ s.long;
        last = λ k x l. ap (λ t. t || any (is_behind book k x) (drop (i + 1) places)) (grown k x) ∙ any_next (is_behind book k x) places 0 i (ltb x (get_or lasts k 0)) (s.last k x l) h;
      }
    where
      grown : (k x : ℕ) → ltb x (get_or (set lasts at (max (get_or lasts at 0) r)) k 0) ≡ ltb x (get_or lasts k 0) || is_behind book k x (get_or places i 0)
      grown k x =
          rw (← e, ← f)
          (same_or at k
          (λ d. rw (eq-eqb at k d, ← d, get_or-set_same lasts at (max (get_or lasts at 0) r) 0 (omega (arith, s.long))) (below_larger x (get_or lasts at 0) r))
          (λ d. rw (ne_eqb at k d, get_or-set_other lasts at k (max (get_or lasts at 0) r) 0 (λ c. d (sym c))) (sym (or_false (ltb x (get_or lasts k 0))))))

  pub lasts_end : (i : ℕ) (lasts : List ℕ) → LastRanksTo i lasts → length places ≤ i → LastRanks book places lasts
  lasts_end i lasts s h = record { long = s.long; last = λ k x l. any_end (is_behind book k x) places 0 i (ltb x (get_or lasts k 0)) (s.last k x l) h }

-- ---- order by order
any_at : (p q : ℕ → Bool) (l : List ℕ) → ((i : ℕ) → i < length l → p (get_or l i 0) ≡ q (get_or l i 0)) → any p l ≡ any q l
unfolding any
any_at p q [] e = refl
any_at p q (x ∷ l) e = rw (e 0 (omega arith), any_at p q l (λ i h. e (suc i) (omega arith)))

before_behind : (o b : Order) → Ranked o → Ranked b → is_before o b ≡ eqb (side_place_of b) (side_place_of o) && ltb (rank_of o) (rank_of b)
before_behind o b f g = rw (place_same b.contract o.contract b.side o.side) (go o.side b.side (λ e. precedes_rank o b e f g))
  where
    go : (u s : Side) → (u ≡ s → precedes o b ≡ ltb (rank_of o) (rank_of b))
        → eqb o.contract b.contract && (same_side u s && precedes o b) ≡ (same_side s u && eqb o.contract b.contract) && ltb (rank_of o) (rank_of b)
    go Buy Buy e = rw (e refl)
    go Buy Sell e = and_false (eqb o.contract b.contract)
    go Sell Buy e = and_false (eqb o.contract b.contract)
    go Sell Sell e = rw (e refl)

module _ (count : ℕ) (book places : List ℕ) (fit : OrdersRanked count book) (there : PlacesFit count places) where
  pub legs_ranked : LegsRanked book places
  legs_ranked =
      record {
        long = fit.long;
        below = λ i h. omega (arith, there.below i h, fit.most_orders_holds);
        contract_below = λ i h. fit.contract_below (get_or places i 0) (there.below i h);
        ranked = λ i h. fit.ranked (get_or places i 0) (there.below i h);
      }

  module _ (lasts : List ℕ) (s : LastRanks book places lasts) where
    ahead_last : (o : Order) → Ranked o → side_place_of o < side_places → ltb (rank_of o) (get_or lasts (side_place_of o) 0) ≡ is_ahead book places o
    unfolding is_ahead
    ahead_last o f h =
        s.last (side_place_of o) (rank_of o) h
        ∙ sym (any_at _ _ places (λ i k. before_behind o (order_at book (get_or places i 0)) f (legs_ranked.ranked i k)))

    pub kept_last : (legs : List Leg) → every (kept_by lasts legs) (orders_in count book) ≡ every (λ o. not (is_ahead book places o) || is_full_leg legs o) (orders_in count book)
    kept_last legs =
        every_map _ (order_at book) (from 0 count)
        ∙ each_same _ _ 0 count
        (λ i _ h. ap (λ t. not t || is_full_leg legs (order_at book i))
        (ahead_last (order_at book i) (fit.ranked i (omega arith)) (omega (arith, fit.contract_below i (omega arith), side_below (order_at book i).side))))
        ∙ sym (every_map _ (order_at book) (from 0 count))

module _ (lasts : List ℕ) (legs : List Leg) (o : Order) (at r : ℕ) (e : at ≡ side_place_of o) (f : r ≡ rank_of o) where
  pub kept_behind : get_or lasts at 0 ≤ r → true ≡ kept_by lasts legs o
  kept_behind h = rw (← e, ← f, le-ltb r (get_or lasts at 0) h)

  pub kept_ahead : r < get_or lasts at 0 → is_full_leg legs o ≡ kept_by lasts legs o
  kept_ahead h = rw (← e, ← f, lt-ltb r (get_or lasts at 0) h)

-- What tables that passed their tests give.
pub orders_ranked : (head book : List ℕ) → HeadFit head → BookFit head book → OrdersRanked (order_count_in head) book
orders_ranked head book h b =
    record {
      long = b.long;
      most_orders_holds = h.most_orders_holds;
      contract_below = λ i l. (b.order_fit i l).contract_below;
      ranked = λ i l. record { price = (b.order_fit i l).most_price_holds; number = omega (arith, (b.order_fit i l).number_below, h.most_accepted) };
    }
