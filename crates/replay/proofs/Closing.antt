-- A close of day on two ledgers that agree but for surplus: GGFs, cascades, closing orders and the next day. Assumes nothing.
use Prim.Native.Nat.{ℕ, zero, suc, ◌+◌, ◌*◌, ◌%◌, ◌≤◌, ◌<◌}
use mathlib.Core.Path.{◌≡◌, sym, ap, subst, ◌∙◌}
use mathlib.Core.Bool.{Bool, true, not}
use mathlib.Core.List.{List, [], ◌∷◌}
use native.Mathlib.Omega.{arith}
use native.Mathlib.Nat.{add-zero}
use lib.ListN.{length, get_or, take, length-take, length-drop}
use lib.Seq.{ext_get_or}
use lib.IntN.{ℤ}
use Rattle.arith.specs.Lists.{All, kept, from, over}
use Rattle.arith.proofs.Alls.{all_map, all_append, all_kept}
use Rattle.arith.proofs.EachBlock.{block, block_at, in_each_block_lem, in_each_length}
use Rattle.arith.proofs.Overs.{over_length}
use Rattle.arith.proofs.Tests.{le_or_lt}
use Rattle.rules.specs.declared.contract.ContractKind.{ContractKind}
use Rattle.rules.specs.declared.contract.ContractKind.TheVariants.{Year, Quarter, Month}
use Rattle.rules.specs.declared.order.Order.{Order}
use Rattle.rules.specs.declared.order.Side.{Side}
use Rattle.rules.specs.declared.order.Side.TheVariants.{Buy, Sell}
use Rattle.rules.specs.Ranges.{contract_count, term_count, most_members}
use Rattle.rules.specs.Days.{Calendar}
use Rattle.rules.specs.ContractTerms.{same_kind, kind_of, term_of, contracts_of, open_count, still_to_close, open_of_kind, open_contracts}
use Rattle.rules.specs.Ledger.{Tables, members, day, calendar, day_lots_place, ggf_place, price_width, prices_length, day_lots, day_value, ggf, with_ggf, orders, with_orders, members_place}
use Rattle.rules.specs.Matching.{best}
use Rattle.rules.specs.CloseOfDay.{quotes, best_quote, ggf_at_close, with_ggfs, without_deals, priced, cascaded, all_cascaded, is_of_any, with_closed}
use Rattle.rules.proofs.Cascade.{cascaded_month, cascaded_length, cascaded_row}
use Rattle.replay.specs.Surplus.{of_ledger}
use Rattle.replay.proofs.Alike.{PricesAlike, prices_with, RowsAlike, Alike, with_orders_lem}

-- ---- the open contracts have prices and rows
abbrev pub AreContracts : List ℕ → Type 0
AreContracts cs = All (λ c. c < contract_count) cs

pub below_from : (a n : ℕ) → a + n ≤ contract_count → AreContracts (from a n)
unfolding from
below_from a zero h = tt
below_from a (suc n) h = (omega arith, below_from (suc a) n (omega arith))

below_kept : (p : ℕ → Bool) (cs : List ℕ) → AreContracts cs → AreContracts (kept p cs)
below_kept p cs a = all_map (λ c. (c < contract_count) × (p c ≡ true)) (λ c. c < contract_count) (kept p cs) (λ c h. h.0) (all_kept (λ c. c < contract_count) p cs a)

below_take : (n : ℕ) (cs : List ℕ) → AreContracts cs → AreContracts (take n cs)
below_take zero cs a = tt
below_take (suc n) [] a = tt
below_take (suc n) (c ∷ cs) a = (a.0, below_take n cs a.1)

pub open_below : (k : Calendar) (d : ℕ) → AreContracts (open_contracts k d)
unfolding open_contracts open_of_kind contracts_of
open_below k d = all_append _ (open_of_kind k d Year) _ (of Year) (all_append _ (open_of_kind k d Quarter) _ (of Quarter) (of Month))
  where
    of : (s : ContractKind) → AreContracts (open_of_kind k d s)
    of s = below_take (open_count s) _ (below_kept (λ c. still_to_close k d (term_of c)) (contracts_of s) (below_kept (λ c. same_kind (kind_of c) s) (from 0 term_count) (below_from 0 term_count (omega arith))))

-- ---- GGFs
module _ (t u : Tables) (today : day t ≡ day u) (os : orders t ≡ orders u) (prices : PricesAlike t.prices u.prices) (s : ℕ) where
  same_quotes : (c : ℕ) (side : Side) (o : Order) → quotes t s c side o ≡ quotes u s c side o
  unfolding quotes
  same_quotes c side o = rw today

  same_best : (c : ℕ) (side : Side) → best_quote t s c side ≡ best_quote u s c side
  unfolding best_quote
  same_best c side = λ r. best (λ o. same_quotes c side o r) (os r)

  same_ggf : (c : ℕ) → c < contract_count → ggf_at_close t s c ≡ ggf_at_close u s c
  unfolding ggf_at_close
  same_ggf c h =
      let m : day_lots t c ≡ day_lots u c = prices.places c 3 h (omega arith) in
      let v : day_value t c ≡ day_value u c = prices.places c 4 h (omega arith) in
      let g : ggf t c ≡ ggf u c = rw (add-zero (c * price_width)) at (prices.places c 0 h (omega arith)) in
      rw (m, v, g, same_best c Buy, same_best c Sell)

  ggfs_alike : (cs : List ℕ) → AreContracts cs → {l l' : List ℕ} → PricesAlike l l' → PricesAlike (with_ggfs t s cs l) (with_ggfs u s cs l')
  unfolding with_ggfs
  ggfs_alike [] b a = a
  ggfs_alike (c ∷ cs) b {l} {l'} a =
      ggfs_alike cs b.1 (subst (λ v. PricesAlike (with_ggf c (ggf_at_close t s c) l) (with_ggf c v l')) (same_ggf c b.0) (prices_with a (ggf_place c) (ggf_at_close t s c) (omega (arith, b.0))))

-- ---- M and V of all contracts become 0
no_deals_length : (b : List ℕ) → length b ≡ price_width → length (over (day_lots_place 0) (0 ∷ 0 ∷ []) b) ≡ price_width
no_deals_length b e = over_length (day_lots_place 0) (0 ∷ 0 ∷ []) b (omega arith) ∙ e

five_same : {l l' : List ℕ} → PricesAlike l l' → (c : ℕ) → c < contract_count → block price_width c l ≡ block price_width c l'
five_same {l} {l'} a c h =
    ext_get_or 0 (block price_width c l) (block price_width c l') (simp (length-take, length-drop) (omega (arith, a.long, a.long')))
    (λ j q. let b : j < price_width = omega (arith, simp (length-take, length-drop) at q) in
    block_at price_width c j l 0 b ∙ a.places c j h b ∙ sym (block_at price_width c j l' 0 b))

no_deals_alike : {l l' : List ℕ} → PricesAlike l l' → PricesAlike (without_deals l) (without_deals l')
unfolding without_deals
no_deals_alike {l} {l'} a =
    let f : List ℕ → List ℕ = over (day_lots_place 0) (0 ∷ 0 ∷ []) in
    let each : (x : List ℕ) → prices_length ≤ length x → (c : ℕ) → c < contract_count → block price_width c (without_deals x) ≡ f (block price_width c x) = λ x b c h. in_each_block_lem price_width f no_deals_length contract_count x b c h in
    record {
      long = omega (arith, in_each_length price_width f no_deals_length contract_count l a.long, a.long);
      long' = omega (arith, in_each_length price_width f no_deals_length contract_count l' a.long', a.long');
      places = λ c j h b. sym (block_at price_width c j (without_deals l) 0 b)
          ∙ ap (λ x. get_or x j 0) (each l a.long c h ∙ ap f (five_same a c h) ∙ sym (each l' a.long' c h))
          ∙ block_at price_width c j (without_deals l') 0 b;
    }

-- ---- cascades
module _ (n : ℕ) (few : n ≤ most_members) where
  cascaded_alike : (c : ℕ) → c < term_count → {l l' : List ℤ} → RowsAlike n l l' → RowsAlike n (cascaded n c l) (cascaded n c l')
  cascaded_alike c b {l} {l'} a = record {
    long = omega (arith, cascaded_length n c l a.long b few, a.long);
    long' = omega (arith, cascaded_length n c l' a.long' b few, a.long');
    places = λ d m h g. le_or_lt 5 (c % 17)
        (λ q. rw (cascaded_month n c l q, cascaded_month n c l' q) (a.places d m h g))
        (λ q. cascaded_row n c l a.long b few d m q g
        ∙ rw (a.places d m h g, a.places c m (omega arith) g) (sym (cascaded_row n c l' a.long' b few d m q g)));
  }

  all_cascaded_alike : (cs : List ℕ) → All (λ c. c < term_count) cs → {l l' : List ℤ} → RowsAlike n l l' → RowsAlike n (all_cascaded n cs l) (all_cascaded n cs l')
  unfolding all_cascaded
  all_cascaded_alike [] b a = a
  all_cascaded_alike (c ∷ cs) b a = all_cascaded_alike cs b.1 (cascaded_alike c b.0 a)

-- ---- tables
module _ {n k q : ℕ} {t u : Tables} (a : Alike n k q t u) (os : orders t ≡ orders u) where
  pub with_ggfs_lem : calendar t ≡ calendar u → (s : ℕ) → Alike n k q (priced s t) (priced s u)
  unfolding priced
  with_ggfs_lem calendars s =
      let today : day t ≡ day u = a.head.places 3 (of_ledger (omega arith)) in
      let opens = ap (λ k. open_contracts k (day t)) calendars ∙ ap (open_contracts (calendar u)) today in
      record {
        head = a.head;
        prices = subst (λ cs. PricesAlike (without_deals (with_ggfs t s (open_contracts (calendar t) (day t)) t.prices)) (without_deals (with_ggfs u s cs u.prices))) opens
            (no_deals_alike (ggfs_alike t u today os a.prices s (open_contracts (calendar t) (day t)) (open_below (calendar t) (day t)) a.prices));
        lots = a.lots;
        value = a.value;
        book = a.book;
      }

  pub with_closed_lem : n ≤ most_members → (cs : List ℕ) → All (λ c. c < term_count) cs → Alike n k (length (kept (λ o. not (is_of_any cs o)) (orders t))) (with_closed cs t) (with_closed cs u)
  unfolding with_closed
  with_closed_lem few cs b =
      let stays : Order → Bool = λ o. not (is_of_any cs o) in
      let w = with_orders_lem a (kept stays (orders t)) in
      let w' = subst (λ x. Alike n k (length (kept stays (orders t))) (with_orders (kept stays (orders t)) t) (with_orders (kept stays x) u)) os w in
      let size : members t ≡ n = a.head.size in
      let size' : members u ≡ n = sym (a.head.places members_place (of_ledger (omega arith))) ∙ size in
      record {
        head = w'.head;
        prices = w'.prices;
        lots = rw (size, size') (all_cascaded_alike n few cs b a.lots);
        value = rw (size, size') (all_cascaded_alike n few cs b a.value);
        book = w'.book;
      }
