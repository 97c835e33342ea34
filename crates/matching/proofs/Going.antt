-- The loops of matching: what holds at their heads, one deal, and the three ways they end. Assumes nothing.
use mathlib.Core.Path.{◌≡◌, refl, sym, ap, ◌∙◌}
use mathlib.Core.Bool.{true, false}
use mathlib.Core.List.{List, [], ◌∷◌, ◌++◌, map}
use Prim.Native.Nat.{ℕ, zero, suc, ◌+◌, ◌*◌, ◌-◌, ◌≤◌, ◌<◌, min}
use native.Mathlib.Omega.{arith}
use native.Mathlib.Nat.{zero-add, add-zero}
use native.Mathlib.Numerals.{add-one}
use lib.ListN.{length, take, drop, get_or, set, length-set}
use lib.Seq.{set-get_or, length-take-le, drop-drop, drop_at}
use borrow.Author.Tests.{eq-eqb, ne_eqb}
use Rattle.arith.specs.Lists.{from, over, All}
use Rattle.arith.proofs.Overs.{over_length, over_inside, over_outside}
use Rattle.arith.proofs.Tests.{same_or, and_false}
use Rattle.arith.proofs.Appends.{from_more, map_append}
use Rattle.rules.specs.declared.order.Order.{Order}
use Rattle.rules.specs.Ranges.{most_lots, most_orders}
use Rattle.rules.specs.Ledger.{book_length, order_at}
use Rattle.rules.specs.Matching.{opposes, meets_price, meets}
use Rattle.matching.specs.declared.deals.Counterparty.{Counterparty}
use Rattle.order_priority.specs.Priority.{Ranked, rank_of}
use Rattle.matching.specs.Ranks.{no_rank, rank_in, ranks_of, lots_of, first_rank, Lowest, Placed, BlockLows, NoneRanked, BestPlace}
use Rattle.matching.specs.Deals.{counterparty, deal_width, deal_places, deal_at, deals_in, FromBook}
use Rattle.matching.specs.Matching.{DealMade, Matchable, Ended, MatchMade}
use Rattle.tables.specs.Fit.{orders_in}
use Rattle.arith.proofs.Alls.{all_place}
use Rattle.matching.proofs.Best.{ranks_length, ranks_at, live, rank_live, rank_room}
use Rattle.matching.proofs.Running.{Running, running_start, running_deal, ranks_set, ended_full, ended_far, ended_none}
use Rattle.matching.proofs.Lows.{placed_gone, best_is, none_is}
use Rattle.order_book.proofs.Left.{orders_length, all_orders}
use Rattle.matching.proofs.Passes.{order_here}
use Rattle.rules.proofs.Distinct.{Distinct, distinct_orders}

-- ---- one more deal in the column
map_below : {B : Type 0} (f g : ℕ → B) (a n : ℕ) → ((i : ℕ) → i < a + n → f i ≡ g i) → map f (from a n) ≡ map g (from a n)
unfolding from
map_below f g a zero e = refl
map_below f g a (suc n) e = rw (e a (omega arith), map_below f g (suc a) n (λ i h. e i (omega arith)))

module _ (k : ℕ) (d : Counterparty) (l : List ℕ) (fits : k * deal_width + 3 ≤ length l) where
  abbrev l' : List ℕ
  l' = over (k * deal_width) (deal_places d) l

  pub deal_new : deal_at l' k ≡ d
  deal_new =
      rw (
        ap (λ n. get_or l' n 0) (sym (add-zero (k * deal_width))) ∙ over_inside (k * deal_width) (deal_places d) l fits 0 0 (omega arith),
        over_inside (k * deal_width) (deal_places d) l fits 1 0 (omega arith),
        over_inside (k * deal_width) (deal_places d) l fits 2 0 (omega arith),
      )

  pub deal_old : (i : ℕ) → i < k → deal_at l' i ≡ deal_at l i
  deal_old i h =
      rw (
        over_outside (k * deal_width) (deal_places d) l fits (i * deal_width) 0 (λ g. omega arith),
        over_outside (k * deal_width) (deal_places d) l fits (i * deal_width + 1) 0 (λ g. omega arith),
        over_outside (k * deal_width) (deal_places d) l fits (i * deal_width + 2) 0 (λ g. omega arith),
      )

  pub deals_more : deals_in (k + 1) l' ≡ deals_in k l ++ (d ∷ [])
  unfolding deals_in
  deals_more =
      rw (add-one k, from_more 0 k, map_append (deal_at l') (from 0 k) ((0 + k) ∷ []), zero-add k, deal_new, map_below (deal_at l') (deal_at l) 0 k (λ i h. deal_old i (omega arith)))

  -- places past them stay as they were
  pub deals_past : drop ((k + 1) * deal_width) l' ≡ drop ((k + 1) * deal_width) l
  unfolding over
  deals_past =
      let e : (k + 1) * deal_width ≡ k * deal_width + 3 = omega arith in
      let front = take (k * deal_width) l in
      let long : length front ≡ k * deal_width = length-take-le (k * deal_width) l (omega arith) in
      rw (e, ← drop-drop 3 (k * deal_width) (front ++ (deal_places d ++ drop (k * deal_width + 3) l)), drop_at front (deal_places d ++ drop (k * deal_width + 3) l) (k * deal_width) long)

pub drop_further : (a b : ℕ) (x y : List ℕ) → a ≤ b → drop a x ≡ drop a y → drop b x ≡ drop b y
drop_further a b x y h e = let s : a + (b - a) ≡ b = omega arith in rw (← s, ← drop-drop (b - a) a x, ← drop-drop (b - a) a y, e)

rank_gone : (o r : Order) → rank_in o 0 r ≡ no_rank
unfolding rank_in
rank_gone o r = rw (and_false (opposes o r))

-- ---- at the head of a loop: n orders, with the deals as they were where the loop began
pub record Going (o : Order) (book : List ℕ) (n : ℕ) (first left ranks lows deals : List ℕ) (wanted k : ℕ) : Type 0 where
  pub ranked : All Ranked (orders_in n book)
  pub numbers : Distinct (orders_in n book)
  pub long : book_length ≤ length book
  pub most_orders_holds : n ≤ most_orders
  pub running : Running o (orders_in n book) left wanted (deals_in k deals)
  pub placed : Placed (ranks_of o left (orders_in n book)) ranks
  pub block_lows : BlockLows ranks lows
  pub some : 0 < wanted
  pub few : k + wanted ≤ most_lots
  pub left_length : length left ≡ n
  pub deals_length : length deals ≡ length first
  pub room : most_lots * deal_width ≤ length deals
  pub from_book : (j : ℕ) → j < k → FromBook book n (deal_at deals j)
  pub past : drop (k * deal_width) deals ≡ drop (k * deal_width) first

pub going_start : (o : Order) (book left ranks lows deals : List ℕ) → Matchable o book (length left) → most_lots * deal_width ≤ length deals
    → left ≡ map lots_of (orders_in (length left) book) → Placed (first_rank o (orders_in (length left) book)) ranks → BlockLows ranks lows
    → Going o book (length left) deals left ranks lows deals o.lots.0 0
unfolding deals_in from
going_start o book left ranks lows deals m room e p b =
    let os = orders_in (length left) book in
    let start = running_start o os (all_orders (λ r. 0 < r.lots.0) book (length left) m.has_lots_holds) in
    record {
      ranked = all_orders Ranked book (length left) m.ranked;
      numbers = distinct_orders os m.numbers_distinct;
      long = m.long;
      most_orders_holds = m.most_orders_holds;
      running = rw (← e) at start;
      placed = rw (← e) at p;
      block_lows = b;
      some = m.least_lots;
      few = omega (arith, m.most_lots_holds);
      left_length = refl;
      deals_length = refl;
      room = room;
      from_book = λ j h. absurd (omega arith);
      past = refl;
    }

-- The best order, which crosses, and its price.
pub record Next (o : Order) (book : List ℕ) (n : ℕ) (left : List ℕ) (best level : ℕ) : Type 0 where
  pub below : best < n
  pub lowest : Lowest (ranks_of o left (orders_in n book)) best
  pub price : (order_at book best).price.0 ≡ level
  pub crosses : meets_price o.side o.price.0 level ≡ true

module _ (o : Order) (book : List ℕ) (n : ℕ) (first left ranks lows deals : List ℕ) (wanted k : ℕ) (g : Going o book n first left ranks lows deals wanted k) where
  abbrev os : List Order
  os = orders_in n book

  -- another start, of which what is behind the first deals is the same
  pub going_from : (first' : List ℕ) (j : ℕ) → j ≤ k → length first ≡ length first' → drop (j * deal_width) first ≡ drop (j * deal_width) first'
      → Going o book n first' left ranks lows deals wanted k
  going_from first' j h e f =
      record {
        ranked = g.ranked;
        numbers = g.numbers;
        long = g.long;
        most_orders_holds = g.most_orders_holds;
        running = g.running;
        placed = g.placed;
        block_lows = g.block_lows;
        some = g.some;
        few = g.few;
        left_length = g.left_length;
        deals_length = g.deals_length ∙ e;
        room = g.room;
        from_book = g.from_book;
        past = g.past ∙ drop_further (j * deal_width) (k * deal_width) first first' (omega arith) f;
      }

  as_many : length (ranks_of o left os) ≡ n
  as_many = ranks_length o left os g.running.sized ∙ orders_length book n

  -- ranks leave room for a place
  small : (j : ℕ) → j < length (ranks_of o left os) → get_or (ranks_of o left os) j 0 < no_rank → get_or (ranks_of o left os) j 0 * most_orders + most_orders ≤ no_rank
  small j h k =
      let inside : j < length os = omega (arith, as_many, orders_length book n) in
      let rank = ranks_at o (order_at book j) left os j g.running.sized inside in
      let alive = live o (get_or left j 0) (get_or os j (order_at book j)) (rw rank at k) in
      rw (rank, alive.2) (rank_room (get_or os j (order_at book j)) (all_place Ranked (order_at book j) os g.ranked j inside))

  best_of : (best : ℕ) → BestPlace lows best → Lowest (ranks_of o left os) best
  best_of best f =
      best_is (ranks_of o left os) ranks g.placed (omega (arith, as_many, g.most_orders_holds)) small lows best g.block_lows f

  pub best_below : (best : ℕ) → BestPlace lows best → best < n
  best_below best f = omega (arith, (best_of best f).below, as_many)

  stopped_here : Ended o os left wanted (deals_in k deals) → MatchMade o book n first (record { deals = k; left = record { 0 = wanted } }) left deals
  stopped_here e = record { ended = e; few = omega (arith, g.few); from_book = g.from_book; past = g.past }

  -- no order is left
  pub none_left : NoneRanked lows → MatchMade o book n first (record { deals = k; left = record { 0 = wanted } }) left deals
  none_left f =
      stopped_here (ended_none o os left wanted (deals_in k deals) g.running g.ranked
      (none_is (ranks_of o left os) ranks g.placed (omega (arith, as_many, g.most_orders_holds)) small lows g.block_lows f))

  -- the best does not cross
  pub best_apart : (best : ℕ) → BestPlace lows best → (r : Order) → r ≡ order_at book best → meets o r ≡ false
      → MatchMade o book n first (record { deals = k; left = record { 0 = wanted } }) left deals
  best_apart best f r e t =
      stopped_here (ended_far o os left wanted (deals_in k deals) g.running (order_at book best) best g.ranked (best_of best f)
      (ap (meets o) (order_here book n best (order_at book best) (best_below best f) ∙ sym e) ∙ t))

  -- it crosses
  pub next_first : (best : ℕ) → BestPlace lows best → (r : Order) → r ≡ order_at book best → meets o r ≡ true → Next o book n left best r.price.0
  unfolding meets
  next_first best f r e t = record { below = best_below best f; lowest = best_of best f; price = ap (λ x. x.price.0) (sym e); crosses = t }

  -- the next of its level crosses too
  pub next_level : (best level : ℕ) → BestPlace lows best → (order_at book best).price.0 ≡ level → meets_price o.side o.price.0 level ≡ true
      → Next o book n left best level
  next_level best level f h t = record { below = best_below best f; lowest = best_of best f; price = h; crosses = t }

  module _ (i level : ℕ) (x : Next o book n left i level) where
    inside : i < length os
    inside = omega (arith, x.below, orders_length book n)

    e : meets o (order_at book i) ≡ true
    unfolding meets
    e = ap (meets_price o.side o.price.0) x.price ∙ x.crosses

    -- a deal with it
    module _ (still : ℕ) (left' ranks' lows' deals' : List ℕ) (d : DealMade book k i wanted left ranks deals still left' ranks' deals') (b : BlockLows ranks' lows') where
      here : get_or os i (order_at book i) ≡ order_at book i
      here = order_here book n i (order_at book i) x.below

      abbrev lots : ℕ
      lots = min wanted (get_or left i 0)

      rank_there : get_or (ranks_of o left os) i 0 ≡ rank_in o (get_or left i 0) (get_or os i (order_at book i))
      rank_there = ranks_at o (order_at book i) left os i g.running.sized inside

      alive : (opposes o (get_or os i (order_at book i)) ≡ true) × (0 < get_or left i 0) × (rank_in o (get_or left i 0) (get_or os i (order_at book i)) ≡ rank_of (get_or os i (order_at book i)))
      alive = live o (get_or left i 0) (get_or os i (order_at book i)) (rw rank_there at x.lowest.some)

      -- an order used up has no rank, another keeps its rank
      placed_made : Placed (ranks_of o left' os) ranks'
      placed_made =
          let r = get_or os i (order_at book i) in
          let rest = get_or left i 0 - lots in
          let after = ap (λ l. ranks_of o l os) d.left_after_holds ∙ ranks_set o (order_at book i) left os i rest g.running.sized inside in
          same_or rest 0
          (λ z. let gone : ranks_of o left' os ≡ set (ranks_of o left os) i no_rank = after ∙ ap (set (ranks_of o left os) i) (ap (λ q. rank_in o q r) z ∙ rank_gone o r) in
          rw (gone, d.ranks_after, eq-eqb rest 0 z) (placed_gone (ranks_of o left os) ranks i (omega (arith, as_many, x.below)) (omega (arith, x.below, g.most_orders_holds)) g.placed))
          (λ z. let kept : ranks_of o left' os ≡ ranks_of o left os
          = after ∙ ap (set (ranks_of o left os) i) (rank_live o rest r alive.0 (omega (arith, z)) ∙ sym alive.2 ∙ sym rank_there) ∙ set-get_or (ranks_of o left os) i 0 in
          rw (kept, d.ranks_after, ne_eqb rest 0 z) g.placed)

      pub left_long : length left' ≡ n
      left_long = ap length d.left_after_holds ∙ length-set left i _ ∙ g.left_length

      fits : k * deal_width + 3 ≤ length deals
      fits = omega (arith, g.room, g.few, g.some)

      pub deals_long : length deals' ≡ length first
      deals_long = ap length d.deals_after ∙ over_length (k * deal_width) (deal_places (counterparty (order_at book i) lots)) deals fits ∙ g.deals_length

      running_made : Running o os left' still (deals_in (k + 1) deals')
      running_made =
          let next = running_deal o os left wanted (deals_in k deals) g.running (order_at book i) i lots g.ranked g.numbers x.lowest (ap (meets o) here ∙ e)
          g.some refl in
          rw (d.still_wanted, d.left_after_holds, d.deals_after, deals_more k (counterparty (order_at book i) lots) deals fits) (rw here at next)

      from_made : (j : ℕ) → j < k + 1 → FromBook book n (deal_at deals' j)
      from_made j h =
          let new = counterparty (order_at book i) lots in
          rw d.deals_after
          (same_or j k (λ e. rw (e, deal_new k new deals fits) (record { place = i; below = x.below; member = refl; price = refl }))
          (λ e. rw (deal_old k new deals fits j (omega arith)) (g.from_book j (omega arith))))

      past_made : drop ((k + 1) * deal_width) deals' ≡ drop ((k + 1) * deal_width) first
      past_made =
          rw d.deals_after (deals_past k (counterparty (order_at book i) lots) deals fits) ∙ drop_further (k * deal_width) ((k + 1) * deal_width) deals first (omega arith) g.past

      pub going_made : (still ≡ 0 → ⊥) → Going o book n first left' ranks' lows' deals' still (k + 1)
      going_made z =
          record {
            ranked = g.ranked;
            numbers = g.numbers;
            long = g.long;
            most_orders_holds = g.most_orders_holds;
            running = running_made;
            placed = placed_made;
            block_lows = b;
            some = omega (arith, z);
            few = omega (arith, d.still_wanted, alive.1, g.few, g.some);
            left_length = left_long;
            deals_length = deals_long;
            room = omega (arith, g.room, deals_long, g.deals_length);
            from_book = from_made;
            past = past_made;
          }

      pub still_less : still < wanted
      still_less = omega (arith, d.still_wanted, alive.1, g.some)

      pub match_made : still ≡ 0 → MatchMade o book n first (record { deals = k + 1; left = record { 0 = still } }) left' deals'
      match_made z =
          record {
            ended = ended_full o os left' still (deals_in (k + 1) deals') running_made z;
            few = omega (arith, g.few, g.some);
            from_book = from_made;
            past = past_made;
          }
