-- The lowest rank of each block, and by it the lowest of all and its place. Assumes nothing.
use mathlib.Core.Path.{◌≡◌, refl, sym, ap, ◌∙◌}
use mathlib.Core.List.{List, [], ◌∷◌}
use Prim.Native.Nat.{ℕ, zero, suc, ◌+◌, ◌*◌, ◌/◌, ◌%◌, ◌≤◌, ◌<◌, min}
use native.Mathlib.Omega.{arith}
use lib.ListN.{length, get_or, set, replicate, length-set, length-replicate, get_or-replicate, get_or-eq_default}
use lib.Seq.{get_or-set_same, get_or-set_other}
use borrow.Author.Tests.{lt-ltb, le-ltb}
use Rattle.arith.proofs.Tests.{same_or, le_or_lt}
use Rattle.rules.specs.Ranges.{most_orders}
use Rattle.matching.specs.Ranks.{no_rank, Lowest, placed_rank, Placed, LowestAmong, block_size, block_count, BlockLows, NoneRanked, BestPlace}

-- ---- the lowest of some numbers
pub lowest_one : (l : List ℕ) (a : ℕ) → LowestAmong l a 1 (get_or l a 0)
lowest_one l a =
    record {
      least = λ j f t. let e : j ≡ a = omega arith in rw e (omega arith);
      place = a;
      from = omega arith;
      below = omega arith;
      same = refl;
    }

-- of two parts that stand side by side
pub lowest_both : (l : List ℕ) (a n b m x y z : ℕ) → LowestAmong l a n x → LowestAmong l b m y → b ≡ a + n → z ≡ min x y → LowestAmong l a (n + m) z
lowest_both l a n b m x y z p q e s =
    let all : (j : ℕ) → a ≤ j → j < a + (n + m) → z ≤ get_or l j 0
    = λ j f t. le_or_lt b j (λ h. omega (arith, q.least j h (omega arith))) (λ h. omega (arith, p.least j f (omega arith))) in
    le_or_lt x y
    (λ h. record { least = all; place = p.place; from = p.from; below = omega (arith, p.below); same = omega (arith, p.same) })
    (λ h. record { least = all; place = q.place; from = omega (arith, q.from); below = omega (arith, q.below); same = omega (arith, q.same) })

-- of a list that is the same there
lowest_same : (l k : List ℕ) (a n x : ℕ) → ((j : ℕ) → a ≤ j → j < a + n → get_or k j 0 ≡ get_or l j 0) → LowestAmong l a n x → LowestAmong k a n x
lowest_same l k a n x e p =
    record {
      least = λ j f t. omega (arith, p.least j f t, e j f t);
      place = p.place;
      from = p.from;
      below = p.below;
      same = p.same ∙ sym (e p.place p.from p.below);
    }

-- ---- the lows of all blocks
module _ (column lows : List ℕ) (b : BlockLows column lows) where
  pub lowest_all : (x : ℕ) → LowestAmong lows 0 block_count x → LowestAmong column 0 most_orders x
  lowest_all x p =
      let there = b.low p.place (omega (arith, p.below)) in
      record {
        least = λ j f t. let k : j / block_size < block_count = omega arith in
            omega (arith, p.least (j / block_size) (omega arith) (omega arith), (b.low (j / block_size) k).least j (omega arith) (omega arith));
        place = there.place;
        from = omega arith;
        below = omega (arith, there.below, p.below);
        same = p.same ∙ there.same;
      }

  -- one rank changed, and the low of its block with it
  pub lows_renewed : (i v x : ℕ) → i < most_orders → LowestAmong (set column i v) (i / block_size * block_size) block_size x → BlockLows (set column i v) (set lows (i / block_size) x)
  lows_renewed i v x h p =
      record {
        long = length-set lows (i / block_size) x ∙ b.long;
        low = λ c k. same_or c (i / block_size) (λ e. rw (e, get_or-set_same lows (i / block_size) x 0 (omega (arith, b.long))) p)
            (λ e. rw (get_or-set_other lows (i / block_size) c x 0 e)
            (lowest_same column (set column i v) (c * block_size) block_size (get_or lows c 0) (λ j f t. get_or-set_other column i j v 0 (λ z. e (omega arith))) (b.low c k)));
      }

-- the lows of the first b blocks
pub lows_next : (column lows : List ℕ) (b x : ℕ) → b < length lows → ((c : ℕ) → c < b → LowestAmong column (c * block_size) block_size (get_or lows c 0))
    → LowestAmong column (b * block_size) block_size x → (c : ℕ) → c < b + 1 → LowestAmong column (c * block_size) block_size (get_or (set lows b x) c 0)
lows_next column lows b x h f p c k =
    same_or c b (λ e. rw (e, get_or-set_same lows b x 0 h) p) (λ e. rw (get_or-set_other lows b c x 0 e) (f c (omega (arith, e))))

-- ---- a column of ranks with their places
below_end : (l : List ℕ) (i : ℕ) → get_or l i no_rank < no_rank → i < length l
below_end l i h = le_or_lt (length l) i (λ k. absurd (omega (arith, get_or-eq_default l no_rank {n = i} k))) (λ k. k)

any_default : (l : List ℕ) (i y z : ℕ) → i < length l → get_or l i y ≡ get_or l i z
any_default [] i y z h = absurd (omega arith)
any_default (x ∷ l) zero y z h = refl
any_default (x ∷ l) (suc i) y z h = any_default l i y z (omega arith)

placed_some : (i x : ℕ) → x < no_rank → placed_rank i x ≡ x * most_orders + i
unfolding placed_rank
placed_some i x h = rw (lt-ltb x no_rank h)

placed_none : (i x : ℕ) → no_rank ≤ x → placed_rank i x ≡ no_rank
unfolding placed_rank
placed_none i x h = rw (le-ltb x no_rank h)

-- of the first i ranks
pub record PlacedTo (ranks : List ℕ) (i : ℕ) (column : List ℕ) : Type 0 where
  pub long : length column ≡ most_orders
  pub placed : (j : ℕ) → j < i → get_or column j 0 ≡ placed_rank j (get_or ranks j no_rank)
  pub behind : (j : ℕ) → i ≤ j → j < most_orders → get_or column j 0 ≡ no_rank

pub placed_start : (ranks column : List ℕ) → column ≡ replicate most_orders no_rank → PlacedTo ranks 0 column
placed_start ranks column e =
    record {
      long = ap length e ∙ length-replicate most_orders no_rank;
      placed = λ j h. absurd (omega arith);
      behind = λ j f t. ap (λ l. get_or l j 0) e ∙ get_or-replicate most_orders j no_rank 0 t;
    }

pub placed_next : (ranks column : List ℕ) (i x : ℕ) → i < length ranks → i < most_orders → PlacedTo ranks i column → x ≡ placed_rank i (get_or ranks i 0)
    → PlacedTo ranks (i + 1) (set column i x)
placed_next ranks column i x h s p e =
    record {
      long = length-set column i x ∙ p.long;
      placed = λ j k. same_or j i (λ z. rw (z, get_or-set_same column i x 0 (omega (arith, p.long))) (e ∙ ap (placed_rank i) (any_default ranks i 0 no_rank h)))
          (λ z. get_or-set_other column i j x 0 z ∙ p.placed j (omega (arith, z)));
      behind = λ j f t. get_or-set_other column i j x 0 (λ z. omega arith) ∙ p.behind j (omega arith) t;
    }

pub placed_all : (ranks column : List ℕ) (i : ℕ) → length ranks ≤ i → PlacedTo ranks i column → Placed ranks column
placed_all ranks column i h p =
    record {
      long = p.long;
      placed = λ j k. le_or_lt i j
          (λ l. p.behind j l k ∙ sym (placed_none j (get_or ranks j no_rank) (omega (arith, get_or-eq_default ranks no_rank {n = j} (omega arith))))) (λ l. p.placed j l);
    }

pub placed_gone : (ranks column : List ℕ) (i : ℕ) → i < length ranks → i < most_orders → Placed ranks column → Placed (set ranks i no_rank) (set column i no_rank)
placed_gone ranks column i h s p =
    record {
      long = length-set column i no_rank ∙ p.long;
      placed = λ j k. same_or j i
          (λ e. rw (e, get_or-set_same column i no_rank 0 (omega (arith, p.long)), get_or-set_same ranks i no_rank no_rank h) (sym (placed_none i no_rank (omega arith))))
          (λ e. rw (get_or-set_other column i j no_rank 0 e, get_or-set_other ranks i j no_rank no_rank e) (p.placed j k));
    }

-- The lowest of them tells the place of the lowest rank.
module _ (ranks column : List ℕ) (p : Placed ranks column) (few : length ranks ≤ most_orders)
    (small : (j : ℕ) → j < length ranks → get_or ranks j 0 < no_rank → get_or ranks j 0 * most_orders + most_orders ≤ no_rank) where
  rank_there : (j : ℕ) → j < length ranks → get_or column j 0 ≡ placed_rank j (get_or ranks j 0)
  rank_there j h = p.placed j (omega arith) ∙ ap (placed_rank j) (any_default ranks j no_rank 0 h)

  module _ (x : ℕ) (q : LowestAmong column 0 most_orders x) where
    none_there : no_rank ≤ x → (j : ℕ) → j < length ranks → no_rank ≤ get_or ranks j 0
    none_there e j h =
        le_or_lt no_rank (get_or ranks j 0) (λ k. k)
        (λ k. absurd (omega (arith, small j h k, rank_there j h, placed_some j (get_or ranks j 0) k, q.least j (omega arith) (omega arith))))

    module _ (some : x < no_rank) where
      abbrev i : ℕ
      i = q.place

      found : get_or ranks i no_rank < no_rank
      found =
          le_or_lt no_rank (get_or ranks i no_rank)
          (λ k. absurd (omega (arith, q.same, p.placed i (omega (arith, q.below)), placed_none i (get_or ranks i no_rank) k))) (λ k. k)

      inside : i < length ranks
      inside = below_end ranks i found

      rank< : get_or ranks i 0 < no_rank
      rank< = rw (any_default ranks i no_rank 0 inside) at found

      low_is : x ≡ get_or ranks i 0 * most_orders + i
      low_is = q.same ∙ rank_there i inside ∙ placed_some i (get_or ranks i 0) rank<

      other : (j : ℕ) → j < length ranks → get_or ranks i 0 * most_orders + i ≤ get_or ranks j 0 * most_orders + j
      other j h =
          le_or_lt no_rank (get_or ranks j 0) (λ k. omega (arith, small i inside rank<))
          (λ k. omega (arith, low_is, q.least j (omega arith) (omega arith), rank_there j h, placed_some j (get_or ranks j 0) k))

      lowest_there : Lowest ranks i
      lowest_there =
          record {
            below = inside;
            some = rank<;
            before = λ j k. omega (arith, other j (omega (arith, inside)), few, inside);
            behind = λ j k. omega (arith, other j k, few);
          }

      place_is : x % most_orders ≡ i
      place_is = omega (arith, low_is, few, inside)

  pub best_is : (lows : List ℕ) (place : ℕ) → BlockLows column lows → BestPlace lows place → Lowest ranks place
  best_is lows place b f =
      let q = lowest_all column lows b f.low f.lowest in
      let there : place ≡ q.place = f.given ∙ place_is f.low q f.some in
      rw there (lowest_there f.low q f.some)

  pub none_is : (lows : List ℕ) → BlockLows column lows → NoneRanked lows → (j : ℕ) → j < length ranks → no_rank ≤ get_or ranks j 0
  none_is lows b f = none_there f.low (lowest_all column lows b f.low f.lowest) f.none
