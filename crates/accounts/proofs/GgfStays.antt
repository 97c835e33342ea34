-- A GGF once found never becomes 0 again: a close of day finds a price of 1 at least or keeps the former, and no other record writes one.
use Prim.Native.Nat.{ℕ, ◌+◌, ◌*◌, ◌/◌, ◌≤◌, ◌<◌}
use mathlib.Core.Path.{◌≡◌, refl, ap, ◌∙◌}
use mathlib.Core.Bool.{Bool, true, cond}
use mathlib.Core.List.{List, [], ◌∷◌}
use mathlib.Core.Option.{Option, none, some}
use native.Mathlib.Omega.{arith}
use native.Mathlib.Nat.{add-zero, mul-le-mul_left, div-lt_iff_lt-mul}
use lib.Dec.{leb, ltb}
use lib.ListN.{length, get_or, set, length-set, length-take, length-drop}
use lib.Seq.{get_or-set_same, get_or-set_other}
use borrow.Author.Tests.{leb-true, ltb-true}
use Rattle.arith.proofs.Alls.{all_map}
use Rattle.arith.proofs.EachBlock.{block, block_at, in_each_block_lem}
use Rattle.arith.specs.Lists.{kept, over}
use Rattle.arith.proofs.Overs.{over_length, over_outside}
use Rattle.arith.proofs.Tests.{by_bool, le_or_lt, same_or}
use Rattle.rules.specs.Ledger.{price_width, prices_length, day_lots_place}
use Rattle.rules.specs.Ranges.{contract_count}
use Rattle.rules.specs.declared.contract.ContractKind.{ContractKind}
use Rattle.rules.specs.declared.contract.ContractKind.TheVariants.{Year, Quarter, Month}
use Rattle.rules.specs.declared.event.CloseOutTerms.{CloseOutTerms}
use Rattle.rules.specs.declared.event.Leg.{Leg}
use Rattle.rules.specs.declared.event.NewDayLimits.{NewDayLimits}
use Rattle.rules.specs.declared.event.Submission.{Submission}
use Rattle.rules.specs.declared.order.Order.{Order}
use Rattle.rules.specs.declared.order.Side.{Side}
use Rattle.rules.specs.declared.order.Side.TheVariants.{Buy, Sell}
use Rattle.rules.specs.ContractTerms.{threshold_of, kind_of, open_contracts}
use Rattle.rules.specs.Ledger.{Tables, day, calendar, lots_run, ggf, day_lots, day_value, orders, with_orders, timed, booked}
use Rattle.rules.specs.Matching.{with_deals, counted, submit_booked}
use Rattle.rules.specs.Synthetic.{proposal_booked}
use Rattle.rules.specs.CloseOfDay.{rounded_half_up, quotes, best_quote, quoted_price, ggf_at_close, with_ggfs, without_deals, closing_contracts, priced, on_day, close_booked}
use Rattle.rules.specs.Default.{default_booked, close_out_booked}
use Rattle.rules.specs.Refusals.{prices_sound, day_limits_booked}
use Rattle.rules.proofs.SoundTables.{Undamaged}
use Rattle.accounts.proofs.Matches.{best_all}
use Rattle.accounts.proofs.PricesStay.{prices_of, Priced, orders_priced, timed_prices, closed_prices}

-- ---- the price that a close of day finds
-- a quotient of 1 at least, rounded
rounded_least : (n d : ℕ) → 0 < d → d ≤ n → 0 < rounded_half_up n d
rounded_least n d h l =
    le_or_lt 1 ((2 * n + d) / (2 * d)) (λ k. k) (λ k. absurd (let w : 2 * n + d < 1 * (2 * d) = (div-lt_iff_lt-mul {k = 2 * d} {x = 2 * n + d} {y = 1} (omega arith)).0 k in omega arith))

threshold_least : (k : ContractKind) → 0 < threshold_of k
threshold_least Year = omega arith
threshold_least Quarter = omega arith
threshold_least Month = omega arith

quoted_least : (m v former : ℕ) (b s : Option Order) → m ≤ v → 0 < former → ((o : Order) → b ≡ some o → Priced o) → ((o : Order) → s ≡ some o → Priced o) → 0 < quoted_price m v former b s
quoted_least m v former none s a h f g = h
quoted_least m v former (some b) none a h f g = h
quoted_least m v former (some b) (some s) a h f g =
    let both = b.price.0 + s.price.0 in
    let both≥ : 2 ≤ both = omega (arith, (f b refl).0, (g s refl).0) in
    by_bool (λ z. 0 < cond z (rounded_half_up (6 * v + m * both) (8 * m)) (rounded_half_up both 2)) (ltb 0 m)
    (λ e. rounded_least (6 * v + m * both) (8 * m) (omega (arith, ltb-true 0 m e)) (omega (arith, mul-le-mul_left m both≥))) (λ _. rounded_least both 2 (omega arith) (omega arith))

-- M and V become 0, and nothing else
front_stays : (b : List ℕ) → length b ≡ price_width → get_or (over (day_lots_place 0) (0 ∷ 0 ∷ []) b) 0 0 ≡ get_or b 0 0
front_stays b e = over_outside (day_lots_place 0) (0 ∷ 0 ∷ []) b (omega arith) 0 0 (λ q. absurd (omega arith))

first_of_block : (c : ℕ) (l : List ℕ) → get_or (block price_width c l) 0 0 ≡ get_or l (c * price_width) 0
first_of_block c l = block_at price_width c 0 l 0 (omega arith) ∙ ap (λ i. get_or l i 0) (add-zero (c * price_width))

without_deals_found : (c : ℕ) (l : List ℕ) → c < contract_count → prices_length ≤ length l → get_or (without_deals l) (c * price_width) 0 ≡ get_or l (c * price_width) 0
unfolding without_deals
without_deals_found c l h long =
    let same = in_each_block_lem 5 (over 3 (0 ∷ 0 ∷ [])) (λ b e. over_length 3 (0 ∷ 0 ∷ []) b (omega arith) ∙ e) contract_count l (omega arith) c h in
    rw (← first_of_block c (without_deals l), same, ← first_of_block c l) (front_stays (block price_width c l) (simp (length-take, length-drop) (omega arith)))

module _ (t : Tables) (u : Undamaged t) where
  quote_priced : (s c : ℕ) (side : Side) (o : Order) → best_quote t s c side ≡ some o → Priced o
  unfolding best_quote
  quote_priced s c side o e =
      best_all Priced (quotes t s c side) (orders t) (all_map Priced (λ b. quotes t s c side b ≡ true → Priced b) (orders t) (λ b p _. p) (orders_priced t u.book_sound_holds)) o e

  found_least : (s c : ℕ) → c < contract_count → 0 < ggf t c → 0 < ggf_at_close t s c
  unfolding ggf_at_close prices_sound
  found_least s c h g =
      let five = prices_of (lots_run t) t.prices u.prices_sound_holds c h in
      let threshold = threshold_of (kind_of c) in
      let b = best_quote t s c Buy in
      let q = best_quote t s c Sell in
      by_bool (λ z. 0 < cond z (rounded_half_up (day_value t c) (day_lots t c)) (quoted_price (day_lots t c) (day_value t c) (ggf t c) b q)) (leb threshold (day_lots t c))
      (λ e. rounded_least (day_value t c) (day_lots t c) (omega (arith, threshold_least (kind_of c), leb-true threshold (day_lots t c) e)) five.least)
      (λ _. quoted_least (day_lots t c) (day_value t c) (ggf t c) b q five.least g (quote_priced s c Buy) (quote_priced s c Sell))

  -- written for each open contract, in turn
  written_least : (s c : ℕ) (cs l : List ℕ) → c * price_width < length l → 0 < ggf_at_close t s c → 0 < get_or l (c * price_width) 0 → 0 < get_or (with_ggfs t s cs l) (c * price_width) 0
  unfolding with_ggfs
  written_least s c [] l w p g = g
  written_least s c (d ∷ cs) l w p g =
      let price = ggf_at_close t s d in
      written_least s c cs (set l (d * price_width) price) (rw (length-set l (d * price_width) price) w) p
      (same_or c d (λ e. rw (← e, get_or-set_same l (c * price_width) (ggf_at_close t s c) 0 w) p) (λ e. rw (get_or-set_other l (d * price_width) (c * price_width) price 0 (λ z. e (omega arith))) g))

  pub written_length : (s : ℕ) (cs l : List ℕ) → length (with_ggfs t s cs l) ≡ length l
  unfolding with_ggfs
  written_length s [] l = refl
  written_length s (c ∷ cs) l = written_length s cs (set l (c * price_width) (ggf_at_close t s c)) ∙ length-set l (c * price_width) (ggf_at_close t s c)

  pub close_found : (s c : ℕ) → c < contract_count → 0 < ggf t c → 0 < ggf (close_booked t s).after c
  unfolding close_booked on_day priced
  close_found s c h g =
      let cs = open_contracts (calendar t) (day t) in
      let l = with_ggfs t s cs t.prices in
      let long : prices_length ≤ length l = omega (arith, written_length s cs t.prices, u.long.prices) in
      let left = closed_prices t u.head_sound_holds u.long.head u.prices_sound_holds u.long.prices (orders_priced t u.book_sound_holds) (closing_contracts t) (priced s t) in
      rw (left, without_deals_found c l h long) (written_least s c cs t.prices (omega (arith, u.long.prices)) (found_least s c h g) g)

-- ---- each kind
-- the GGFs of u that were found are found in u'
abbrev pub Found : Tables → Tables → Type 0
Found u u' = (c : ℕ) → c < contract_count → 0 < ggf u c → 0 < ggf u' c

-- a contract's other places are written
set_found : (l : List ℕ) (d j v c : ℕ) → 0 < j → j < price_width → get_or (set l (d * price_width + j) v) (c * price_width) 0 ≡ get_or l (c * price_width) 0
set_found l d j v c a b = get_or-set_other l (d * price_width + j) (c * price_width) v 0 (λ e. omega arith)

module _ (t : Tables) (u : Undamaged t) where
  timed_found : (n : ℕ) → (timed n t).prices ≡ t.prices
  timed_found n = timed_prices t u.head_sound_holds u.long.head u.prices_sound_holds n

  pub submit_found : (e : Submission) → Found t (submit_booked t e).after
  unfolding submit_booked with_deals counted with_orders booked
  submit_found e c h g = rw (set_found (set _ _ _) e.contract 4 _ c (omega arith) (omega arith), set_found _ e.contract 3 _ c (omega arith) (omega arith), timed_found e.time) g

  pub cancel_found : (n : ℕ) (p : Order → Bool) → Found t (booked [] (with_orders (kept p (orders t)) (timed n t))).after
  unfolding with_orders booked
  cancel_found n p c h g = rw (timed_found n) g

  pub limits_found : (e : NewDayLimits) → Found t (day_limits_booked t e).after
  unfolding booked
  limits_found e c h g = rw (set_found (set _ _ _) e.contract 2 _ c (omega arith) (omega arith), set_found _ e.contract 1 _ c (omega arith) (omega arith)) g

  pub proposal_found : (legs : List Leg) → Found t (proposal_booked t legs).after
  unfolding proposal_booked with_orders booked
  proposal_found legs c h g = g

  pub default_found : (m : ℕ) → Found t (default_booked t m).after
  unfolding default_booked with_orders booked
  default_found m c h g = g

  pub close_out_found : (e : CloseOutTerms) → Found t (close_out_booked t e).after
  unfolding close_out_booked booked
  close_out_found e c h g = g
