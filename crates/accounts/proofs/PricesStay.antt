-- The prices stay sound through every record that no cause refuses.
use mathlib.Core.Path.{◌≡◌, refl, ◌∙◌}
use mathlib.Core.Bool.{Bool, true, false, cond, ◌&&◌}
use mathlib.Core.List.{List, [], ◌∷◌, flat_map}
use mathlib.Core.Option.{Option, none, some}
use Prim.Native.Nat.{ℕ, zero, suc, ◌+◌, ◌*◌, ◌/◌, ◌≤◌, ◌<◌}
use native.Mathlib.Omega.{arith}
use native.Mathlib.Nat.{add-zero, mul-le-mul_left, div-lt_iff_lt-mul, div-zero}
use lib.Dec.{leb, ltb}
use lib.ListN.{length, get_or, set, length-set}
use lib.Seq.{get_or-set_same, get_or-set_other}
use borrow.Author.Tests.{leb-true, le-leb}
use Rattle.arith.specs.Lists.{All, kept, total, over, every_block}
use Rattle.arith.proofs.Alls.{all_hold, hold_all, all_map}
use Rattle.arith.proofs.EachBlock.{block, block_at, block_passes, every_block_lem, blocks_done}
use Rattle.arith.proofs.Overs.{over_length, over_inside, over_outside}
use Rattle.arith.proofs.Tests.{by_bool, same_or, and_left, and_right}
use Rattle.rules.specs.Ledger.{head_length, price_width, prices_length, time_place, day_lots_place}
use Rattle.rules.specs.Ranges.{contract_count, last_second, most_price}
use Rattle.rules.specs.declared.event.CloseOutTerms.{CloseOutTerms}
use Rattle.rules.specs.declared.event.Leg.{Leg}
use Rattle.rules.specs.declared.event.NewDayLimits.{NewDayLimits}
use Rattle.rules.specs.declared.event.Submission.{Submission}
use Rattle.rules.specs.declared.order.Order.{Order}
use Rattle.rules.specs.declared.order.Side.{Side}
use Rattle.rules.specs.declared.order.Side.TheVariants.{Buy, Sell}
use Rattle.rules.specs.ContractTerms.{threshold_of, kind_of, open_contracts}
use Rattle.rules.specs.Header.{Header}
use Rattle.rules.specs.Ledger.{Tables, Line, with_head, with_prices, members, day, time, lots_run, calendar, ggf, day_lots, day_value, orders, with_orders, line_run, booked}
use Rattle.rules.specs.Ledger.{without_submits, timed, fresh_prices, fresh}
use Rattle.rules.specs.Sides.{other_side}
use Rattle.rules.specs.Matching.{Deal, deal_lines, incoming, matched, submit_matched, submit_lines, with_deals, counted, submit_booked}
use Rattle.rules.specs.Synthetic.{proposal_lines, used_by_legs, proposal_booked}
use Rattle.rules.specs.Default.{default_booked, close_out_lines, close_out_booked}
use Rattle.rules.specs.CloseOfDay.{rounded_half_up, quotes, best_quote, quoted_price, ggf_at_close, with_ggfs, without_deals, closing_contracts, with_closed, priced, on_day, close_booked}
use Rattle.rules.specs.Refusals.{contract_prices_sound, prices_sound, head_sound, book_sound, submit_causes}
use Rattle.rules.proofs.SoundTables.{SoundOrder, book_gives}
use Rattle.accounts.proofs.Matches.{best_all}
use Rattle.accounts.proofs.Submits.{dealt_all}
use Rattle.accounts.proofs.HeadStays.{Stays, unchanged, run_booked, submit_unbooked, submit_stays, cancel_stays, proposal_stays, default_unbooked, default_stays}
use Rattle.rules.proofs.Sides.{abs_signed}

-- ---- a contract's five numbers: GGF, low, high, M and V
pub record Five (run price low high m v : ℕ) : Type 0 where
  pub price≤ : price ≤ most_price
  pub low≥ : 1 ≤ low
  pub ordered : low ≤ high
  pub high≤ : high ≤ most_price
  pub within : m ≤ run
  pub least : m ≤ v
  pub most : v ≤ most_price * m

-- what the test says of them, and back
five_of : (run : ℕ) (b : List ℕ) → contract_prices_sound run b ≡ true → Five run (get_or b 0 0) (get_or b 1 0) (get_or b 2 0) (get_or b 3 0) (get_or b 4 0)
unfolding contract_prices_sound
five_of run b e =
    let a = all_hold _ e in
    let l = get_or b 1 0 in
    let h = get_or b 2 0 in
    let ranges = and_left (leb 1 l && leb l h) (leb h most_price) a.1.0 in
    record {
      price≤ = leb-true _ _ a.0;
      low≥ = leb-true 1 l (and_left (leb 1 l) (leb l h) ranges);
      ordered = leb-true l h (and_right (leb 1 l) (leb l h) ranges);
      high≤ = leb-true h most_price (and_right (leb 1 l && leb l h) (leb h most_price) a.1.0);
      within = leb-true _ _ a.1.1.0;
      least = leb-true _ _ a.1.1.1.0;
      most = leb-true _ _ a.1.1.1.1.0;
    }

five_sound : (run : ℕ) (b : List ℕ) → Five run (get_or b 0 0) (get_or b 1 0) (get_or b 2 0) (get_or b 3 0) (get_or b 4 0) → contract_prices_sound run b ≡ true
unfolding contract_prices_sound
five_sound run b f = hold_all _ (
  le-leb _ _ f.price≤,
  (
    rw (le-leb 1 (get_or b 1 0) f.low≥, le-leb (get_or b 1 0) (get_or b 2 0) f.ordered) (le-leb (get_or b 2 0) most_price f.high≤),
    (le-leb _ _ f.within, (le-leb _ _ f.least, (le-leb _ _ f.most, tt))),
  ),
)

-- ---- the prices of all contracts, place by place
abbrev pub at : List ℕ → ℕ → ℕ → ℕ
at l c j = get_or l (c * price_width + j) 0

abbrev pub FiveAt : ℕ → List ℕ → ℕ → Type 0
FiveAt run l c = Five run (at l c 0) (at l c 1) (at l c 2) (at l c 3) (at l c 4)

abbrev pub Prices : ℕ → List ℕ → Type 0
Prices run l = (c : ℕ) → c < contract_count → FiveAt run l c

module _ (run : ℕ) (l : List ℕ) where
  read : (c j : ℕ) → j < price_width → get_or (block price_width c l) j 0 ≡ at l c j
  read c j h = block_at price_width c j l 0 h

  pub prices_of : every_block 5 (contract_prices_sound run) contract_count l ≡ true → Prices run l
  prices_of e c h = rw (read c 0 (omega arith), read c 1 (omega arith), read c 2 (omega arith), read c 3 (omega arith), read c 4 (omega arith))
      at (five_of run (block 5 c l) (block_passes 5 (contract_prices_sound run) contract_count l e c h))

  prices_sound_holds : Prices run l → every_block 5 (contract_prices_sound run) contract_count l ≡ true
  prices_sound_holds f = every_block_lem 5 (contract_prices_sound run) contract_count l (λ c h. five_sound run (block 5 c l)
      (rw (read c 0 (omega arith), read c 1 (omega arith), read c 2 (omega arith), read c 3 (omega arith), read c 4 (omega arith)) (f c h)))

-- the lots run only grows
more_run : {run run' price low high m v : ℕ} → run ≤ run' → Five run price low high m v → Five run' price low high m v
more_run h f = record { price≤ = f.price≤; low≥ = f.low≥; ordered = f.ordered; high≤ = f.high≤; within = omega (arith, f.within); least = f.least; most = f.most }

-- a change of one contract's numbers alone
one_contract : (run run' : ℕ) (l l' : List ℕ) (c : ℕ) → run ≤ run' → ((d k : ℕ) → k < 5 → (d ≡ c → ⊥) → at l' d k ≡ at l d k) → (c < contract_count → FiveAt run l c → FiveAt run' l' c)
    → Prices run l → Prices run' l'
one_contract run run' l l' c h same f a d q =
    same_or d c (λ e. rw e (f (rw e at q) (rw e at (a d q))))
    (λ e. rw (same d 0 (omega arith) e, same d 1 (omega arith) e, same d 2 (omega arith) e, same d 3 (omega arith) e, same d 4 (omega arith) e) (more_run h (a d q)))

set_elsewhere : (l : List ℕ) (c d j k v : ℕ) → j < price_width → k < price_width → (d ≡ c → ⊥) → at (set l (c * price_width + j) v) d k ≡ at l d k
set_elsewhere l c d j k v h q e = get_or-set_other l (c * price_width + j) (d * price_width + k) v 0 (λ s. e (omega arith))

-- two of a contract's numbers, at its places j and k, are written
module _ (l : List ℕ) (wide : prices_length ≤ length l) (c : ℕ) (c< : c < contract_count) (j k x y : ℕ) (j< : j < k) (k< : k < 5) where
  abbrev two : List ℕ
  two = set (set l (c * price_width + j) x) (c * price_width + k) y

  two_first : at two c j ≡ x
  two_first = get_or-set_other (set l (c * price_width + j) x) (c * price_width + k) (c * price_width + j) y 0 (λ e. omega arith) ∙ get_or-set_same l (c * price_width + j) x 0 (omega arith)

  two_second : at two c k ≡ y
  two_second = get_or-set_same (set l (c * price_width + j) x) (c * price_width + k) y 0 (omega (arith, length-set l (c * price_width + j) x))

  two_other : (i : ℕ) → (i ≡ j → ⊥) → (i ≡ k → ⊥) → at two c i ≡ at l c i
  two_other i p q = get_or-set_other (set l (c * price_width + j) x) (c * price_width + k) (c * price_width + i) y 0 (λ e. q (omega arith))
      ∙ get_or-set_other l (c * price_width + j) (c * price_width + i) x 0 (λ e. p (omega arith))

  two_elsewhere : (d i : ℕ) → i < price_width → (d ≡ c → ⊥) → at two d i ≡ at l d i
  two_elsewhere d i h e = set_elsewhere (set l (c * price_width + j) x) c d k i y k< h e ∙ set_elsewhere l c d j i x (omega arith) h e

-- new day limits
new_limits : (run : ℕ) (l : List ℕ) (c low high : ℕ) → prices_length ≤ length l → c < contract_count → 1 ≤ low → low ≤ high → high ≤ most_price → Prices run l
    → Prices run (set (set l (c * price_width + 1) low) (c * price_width + 2) high)
new_limits run l c low high wide c< a b h p =
    let l' = set (set l (c * price_width + 1) low) (c * price_width + 2) high in
    one_contract run run l l' c (omega arith) (two_elsewhere l wide c c< 1 2 low high (omega arith) (omega arith))
    (λ _ f. let other : (i : ℕ) → (i ≡ 1 → ⊥) → (i ≡ 2 → ⊥) → at l' c i ≡ at l c i = two_other l wide c c< 1 2 low high (omega arith) (omega arith) in
    rw (
      two_first l wide c c< 1 2 low high (omega arith) (omega arith),
      two_second l wide c c< 1 2 low high (omega arith) (omega arith),
      other 0 (λ e. omega arith) (λ e. omega arith),
      other 3 (λ e. omega arith) (λ e. omega arith),
      other 4 (λ e. omega arith) (λ e. omega arith),
    )
    (record { price≤ = f.price≤; low≥ = a; ordered = b; high≤ = h; within = f.within; least = f.least; most = f.most })) p

-- q more lots worth w
new_deals : (run run' : ℕ) (l : List ℕ) (c q w : ℕ) → prices_length ≤ length l → c < contract_count → run + q ≤ run' → q ≤ w → w ≤ most_price * q → Prices run l
    → Prices run' (set (set l (c * price_width + 3) (at l c 3 + q)) (c * price_width + 4) (at l c 4 + w))
new_deals run run' l c q w wide c< r a b p =
    let x = at l c 3 + q in
    let y = at l c 4 + w in
    let l' = set (set l (c * price_width + 3) x) (c * price_width + 4) y in
    one_contract run run' l l' c (omega arith) (two_elsewhere l wide c c< 3 4 x y (omega arith) (omega arith))
    (λ _ f. let other : (i : ℕ) → (i ≡ 3 → ⊥) → (i ≡ 4 → ⊥) → at l' c i ≡ at l c i = two_other l wide c c< 3 4 x y (omega arith) (omega arith) in
    rw (
      two_first l wide c c< 3 4 x y (omega arith) (omega arith),
      two_second l wide c c< 3 4 x y (omega arith) (omega arith),
      other 0 (λ e. omega arith) (λ e. omega arith),
      other 1 (λ e. omega arith) (λ e. omega arith),
      other 2 (λ e. omega arith) (λ e. omega arith),
    )
    (record {
      price≤ = f.price≤;
      low≥ = f.low≥;
      ordered = f.ordered;
      high≤ = f.high≤;
      within = omega (arith, f.within);
      least = omega (arith, f.least);
      most = omega (arith, f.most);
    })) p

-- a new GGF
new_ggf : (run : ℕ) (l : List ℕ) (c price : ℕ) → prices_length ≤ length l → (c < contract_count → price ≤ most_price) → Prices run l → Prices run (set l (c * price_width) price)
new_ggf run l c price wide h p =
    rw (← add-zero (c * price_width)) (one_contract run run l (set l (c * price_width + 0) price) c (omega arith) (λ d k q e. set_elsewhere l c d 0 k price (omega arith) q e)
    (λ c< f. let other : (i : ℕ) → (i ≡ 0 → ⊥) → at (set l (c * price_width + 0) price) c i ≡ at l c i = λ i z. get_or-set_other l (c * price_width + 0) (c * price_width + i) price 0
    (λ e. z (omega arith)) in
    rw (get_or-set_same l (c * price_width + 0) price 0 (omega arith), other 1 (λ e. omega arith), other 2 (λ e. omega arith), other 3 (λ e. omega arith), other 4 (λ e. omega arith))
    (record { price≤ = h c<; low≥ = f.low≥; ordered = f.ordered; high≤ = f.high≤; within = f.within; least = f.least; most = f.most })) p)

-- ---- the orders' prices bound what deals and quotes bring
abbrev pub Priced : Order → Type 0
Priced o = (1 ≤ o.price.0) × (o.price.0 ≤ most_price)

pub orders_priced : (t : Tables) → book_sound t ≡ true → All Priced (orders t)
orders_priced t e = all_map (SoundOrder t) Priced (orders t) (λ o s. (s.price.from, s.price.to)) (book_gives t e).each

abbrev dealt_lots : List Deal → ℕ
dealt_lots ds = total (λ d. d.lots) ds

abbrev dealt_value : List Deal → ℕ
dealt_value ds = total (λ d. d.lots * d.resting.price.0) ds

-- 1 to 1,000,000 a lot
deals_worth : (ds : List Deal) → All (λ d. Priced d.resting) ds → (dealt_lots ds ≤ dealt_value ds) × (dealt_value ds ≤ most_price * dealt_lots ds)
unfolding total
deals_worth [] a = (omega arith, omega arith)
deals_worth (d ∷ ds) a =
    let low = mul-le-mul_left d.lots a.0.0 in
    let high = mul-le-mul_left d.lots a.0.1 in
    let rest = deals_worth ds a.1 in
    (omega arith, omega arith)

-- each deal counts twice in the lots run
deals_run : (o : Order) (ds : List Deal) → line_run (flat_map (deal_lines o) ds) ≡ dealt_lots ds + dealt_lots ds
unfolding line_run total flat_map
deals_run o [] = refl
deals_run o (d ∷ ds) = rw (abs_signed o.side d.lots, abs_signed (other_side o.side) d.lots) (omega (arith, deals_run o ds))

-- the reference price: a rounded quotient of at most 1,000,000
rounded_most : (n d : ℕ) → n ≤ most_price * d → rounded_half_up n d ≤ most_price
rounded_most n zero h = rw (div-zero (2 * n + 0)) (omega arith)
rounded_most n (suc d) h = let l : (2 * n + suc d) / (2 * suc d) < 1000001 = (div-lt_iff_lt-mul {k = 2 * suc d} {x = 2 * n + suc d} {y = 1000001} (omega arith)).1 (omega arith) in omega arith

quoted_most : (m v former : ℕ) (b s : Option Order) → v ≤ most_price * m → former ≤ most_price → ((o : Order) → b ≡ some o → Priced o) → ((o : Order) → s ≡ some o → Priced o)
    → quoted_price m v former b s ≤ most_price
quoted_most m v former none s a h f g = h
quoted_most m v former (some b) none a h f g = h
quoted_most m v former (some b) (some s) a h f g =
    let both = b.price.0 + s.price.0 in
    let both≤ : both ≤ 2000000 = omega (arith, (f b refl).1, (g s refl).1) in
    by_bool (λ z. cond z (rounded_half_up (6 * v + m * both) (8 * m)) (rounded_half_up both 2) ≤ most_price) (ltb 0 m)
    (λ _. rounded_most (6 * v + m * both) (8 * m) (omega (arith, mul-le-mul_left m both≤))) (λ _. rounded_most both 2 (omega arith))

-- a contract whose M and V are set to 0
without_deals_lem : (run run' : ℕ) (b : List ℕ) → length b ≡ price_width → contract_prices_sound run b ≡ true → (length (over (day_lots_place 0) (0 ∷ 0 ∷ []) b) ≡ price_width) × (contract_prices_sound run' (over (day_lots_place 0) (0 ∷ 0 ∷ []) b) ≡ true)
without_deals_lem run run' b e s =
    let f = five_of run b s in
    let fits : price_width ≤ length b = omega arith in
    let front : (i : ℕ) → i < 3 → get_or (over (day_lots_place 0) (0 ∷ 0 ∷ []) b) i 0 ≡ get_or b i 0 = λ i h. over_outside (day_lots_place 0) (0 ∷ 0 ∷ []) b fits i 0 (λ q. absurd (omega arith)) in (
      over_length (day_lots_place 0) (0 ∷ 0 ∷ []) b fits ∙ e,
      five_sound run' (over (day_lots_place 0) (0 ∷ 0 ∷ []) b)
          (rw (front 0 (omega arith), front 1 (omega arith), front 2 (omega arith), over_inside (day_lots_place 0) (0 ∷ 0 ∷ []) b fits 0 0 (omega arith), over_inside (day_lots_place 0) (0 ∷ 0 ∷ []) b fits 1 0 (omega arith))
          (record { price≤ = f.price≤; low≥ = f.low≥; ordered = f.ordered; high≤ = f.high≤; within = omega arith; least = omega arith; most = omega arith })),
    )

-- ---- each kind of record
module _ (t : Tables) (head : head_sound t ≡ true) (long : head_length ≤ length t.head) (sound : prices_sound t ≡ true) where
  now : Prices (lots_run t) t.prices
  unfolding prices_sound
  now = prices_of (lots_run t) t.prices sound

  -- a record with lines: t' is what they are booked in
  prices_booked : (ls : List Line) (t' : Tables) → Stays time_place (members t) t.head t'.head → Prices (lots_run t + line_run ls) t'.prices → prices_sound (booked ls t').after ≡ true
  unfolding prices_sound booked
  prices_booked ls t' w p = rw (run_booked t head long ls t' w) (prices_sound_holds (lots_run t + line_run ls) t'.prices p)

  -- one that leaves the prices
  prices_left : (ls : List Line) (t' : Tables) → Stays time_place (members t) t.head t'.head → t'.prices ≡ t.prices → prices_sound (booked ls t').after ≡ true
  prices_left ls t' w e = prices_booked ls t' w (rw e (λ c h. more_run (omega arith) (now c h)))

  pub timed_prices : (s : ℕ) → (timed s t).prices ≡ t.prices
  unfolding timed
  timed_prices s = by_bool (λ b. (cond b (with_head (set (without_submits t).head time_place s) t) t).prices ≡ t.prices) (ltb (time t) s) (λ _. refl) (λ _. refl)

  pub cancel_prices : (n : ℕ) (p : Order → Bool) → n ≤ last_second → prices_sound (booked [] (with_orders (kept p (orders t)) (timed n t))).after ≡ true
  unfolding with_orders
  cancel_prices n p h = prices_left [] (with_orders (kept p (orders t)) (timed n t)) (cancel_stays t head long n p h) (timed_prices n)

  pub proposal_prices : (legs : List Leg) → prices_sound (proposal_booked t legs).after ≡ true
  unfolding proposal_booked with_orders
  proposal_prices legs = prices_left (proposal_lines t legs) (with_orders (used_by_legs legs (orders t)) t) (proposal_stays t head long legs) refl

  pub default_prices : (m : ℕ) → m < members t → prices_sound (default_booked t m).after ≡ true
  unfolding default_booked default_unbooked with_orders
  default_prices m h = prices_left [] (default_unbooked t m) (default_stays t head long m h) refl

  pub close_out_prices : (e : CloseOutTerms) → prices_sound (close_out_booked t e).after ≡ true
  unfolding close_out_booked
  close_out_prices e = prices_left (close_out_lines t e) t (unchanged t head long time_place) refl

  module _ (wide : prices_length ≤ length t.prices) where
    pub limits_prices : (e : NewDayLimits) → e.contract < contract_count → 1 ≤ e.low.0 → e.low.0 ≤ e.high.0 → e.high.0 ≤ most_price
        → prices_sound (booked [] (with_prices (set (set t.prices (e.contract * price_width + 1) e.low.0) (e.contract * price_width + 2) e.high.0) t)).after ≡ true
    limits_prices e c< a b h =
        let l = set (set t.prices (e.contract * price_width + 1) e.low.0) (e.contract * price_width + 2) e.high.0 in
        prices_booked [] (with_prices l t) (unchanged t head long time_place)
        (λ c q. more_run (omega arith) (new_limits (lots_run t) t.prices e.contract e.low.0 e.high.0 wide c< a b h now c q))

    module _ (prices : All Priced (orders t)) where
      -- M grows by the deals' lots, V by what they are worth, the lots run by twice the lots
      pub submit_prices : (e : Submission) → e.time ≤ last_second → e.member < members t → e.contract < contract_count → All (λ c. c.0 ≡ false) (submit_causes t e)
          → prices_sound (submit_booked t e).after ≡ true
      unfolding submit_booked submit_unbooked submit_lines submit_matched matched with_orders with_deals counted
      submit_prices e time≤ member< c< f =
          let o = incoming t e in
          let ds = (submit_matched t e).deals in
          let worth = deals_worth ds (dealt_all Priced (λ b q p. p) (length (orders t)) o (orders t) prices) in
          prices_booked (submit_lines t e) (submit_unbooked t e) (submit_stays t head long e time≤ member< f)
          (rw (timed_prices e.time) (new_deals (lots_run t) (lots_run t + line_run (submit_lines t e)) t.prices e.contract (dealt_lots ds) (dealt_value ds) wide c<
          (omega (arith, deals_run o ds)) worth.0 worth.1 now))

      -- ---- the close of day
      ggf_most : (s c : ℕ) → c < contract_count → ggf_at_close t s c ≤ most_price
      unfolding ggf_at_close best_quote
      ggf_most s c h =
          let f = now c h in
          let b = best_quote t s c Buy in
          let q = best_quote t s c Sell in
          let quote : (side : Side) (o : Order) → best_quote t s c side ≡ some o → Priced o = λ side o e.
          best_all Priced (quotes t s c side) (orders t) (all_map Priced (λ b. quotes t s c side b ≡ true → Priced b) (orders t) (λ b p _. p) prices) o e in
          by_bool (λ z. cond z (rounded_half_up (day_value t c) (day_lots t c)) (quoted_price (day_lots t c) (day_value t c) (ggf t c) b q) ≤ most_price) (leb (threshold_of (kind_of c)) (day_lots t c))
          (λ _. rounded_most (day_value t c) (day_lots t c) f.most)
          (λ _. quoted_most (day_lots t c) (day_value t c) (ggf t c) b q f.most (rw (add-zero (c * price_width)) at f.price≤) (quote Buy) (quote Sell))

      new_ggfs : (s : ℕ) (cs l : List ℕ) → prices_length ≤ length l → Prices (lots_run t) l → (prices_length ≤ length (with_ggfs t s cs l)) × Prices (lots_run t) (with_ggfs t s cs l)
      unfolding with_ggfs
      new_ggfs s [] l w p = (w, p)
      new_ggfs s (c ∷ cs) l w p = new_ggfs s cs (set l (c * price_width) (ggf_at_close t s c)) (rw (length-set l (c * price_width) (ggf_at_close t s c)) w)
          (new_ggf (lots_run t) l c (ggf_at_close t s c) w (ggf_most s c) p)

      pub closed_prices : (cs : List ℕ) (u : Tables) → (with_closed cs u).prices ≡ u.prices
      unfolding with_closed with_orders
      closed_prices cs u = refl

      -- without deals they are sound beside any lots run
      closed_sound : (n run : ℕ) → every_block 5 (contract_prices_sound run) contract_count (with_closed (closing_contracts t) (priced n t)).prices ≡ true
      unfolding priced without_deals
      closed_sound n run =
          let l = with_ggfs t n (open_contracts (calendar t) (day t)) t.prices in
          let g = new_ggfs n (open_contracts (calendar t) (day t)) t.prices wide now in
          rw (closed_prices (closing_contracts t) (priced n t))
          (blocks_done 5 (contract_prices_sound run) (contract_prices_sound (lots_run t)) (over 3 (0 ∷ 0 ∷ [])) (without_deals_lem (lots_run t) run) contract_count l g.0 (prices_sound_holds (lots_run t) l g.1))

      pub close_prices : (n : ℕ) → prices_sound (close_booked t n).after ≡ true
      unfolding prices_sound close_booked on_day
      close_prices n = closed_sound n (lots_run (close_booked t n).after)

-- ---- the fresh ledger
pub fresh_prices_lem : (h : Header) (t : Tables) → prices_length ≤ length t.prices → prices_sound (fresh h t) ≡ true
unfolding prices_sound fresh fresh_prices
fresh_prices_lem h t wide =
    blocks_done 5 (contract_prices_sound (lots_run (fresh h t))) (λ b. true) (λ five. 0 ∷ 1 ∷ most_price ∷ 0 ∷ 0 ∷ [])
    (λ b _ _. (
      refl,
      five_sound (lots_run (fresh h t)) (0 ∷ 1 ∷ most_price ∷ 0 ∷ 0 ∷ [])
          (record { price≤ = omega arith; low≥ = omega arith; ordered = omega arith; high≤ = omega arith; within = omega arith; least = omega arith; most = omega arith }),
    ))
    contract_count t.prices wide (every_block_lem 5 (λ b. true) contract_count t.prices (λ c h. refl))
