-- What undamaged tables give the parts of a close, and the parts put together. Assumes nothing.
use mathlib.Core.Path.{◌≡◌, ap, ◌∙◌}
use mathlib.Core.Bool.{true, false, not}
use mathlib.Core.List.{List, [], ◌∷◌, ◌++◌}
use Prim.Native.Nat.{ℕ, zero, suc, ◌≤◌, ◌<◌}
use native.Mathlib.Omega.{arith}
use lib.ListN.{length, get_or, take}
use borrow.Author.Tests.{le-ltb}
use lib.IntN.{ℤ}
use Rattle.std.specs.Prelude.{Some, None, Ok, Err}
use Rattle.arith.specs.Lists.{All, kept}
use Rattle.arith.proofs.Alls.{all_map, all_append, all_kept}
use Rattle.rules.specs.Ledger.{prices_length}
use Rattle.rules.specs.Ranges.{contract_count, term_count}
use Rattle.rules.specs.declared.contract.ContractKind.{ContractKind}
use Rattle.rules.specs.declared.contract.ContractKind.TheVariants.{Year, Quarter, Month}
use Rattle.rules.specs.declared.order.Side.TheVariants.{Buy, Sell}
use Rattle.rules.specs.declared.refusal.Refusal.TheVariants.{NoLaterDay}
use Rattle.rules.specs.declared.units.DayNo.{DayNo}
use Rattle.rules.specs.Days.{next_business_day}
use Rattle.rules.specs.ContractTerms.{open_count, contracts_of}
use Rattle.rules.specs.Ledger.{Tables, with_prices, with_rows, members, day, time, calendar, order_count, orders, with_orders, order_at}
use Rattle.rules.specs.CloseOfDay.{priced, without_deals, closing_contracts, all_cascaded, is_of_any, with_closed, on_day, has_next_day, next_day, close_booked}
use Rattle.rules.specs.Refusals.{close_spec}
use Rattle.tables.specs.Fit.{HeadFit, PricesFit, BookFit, order_count_in, lots_run_in, orders_in}
use Rattle.order_book.proofs.Left.{all_orders}
use Rattle.contract_phases.specs.declared.by_contract.Phase.{Phase}
use Rattle.contract_phases.specs.Phases.{phases, waits, closes, closing, open_in, all_open_in}
use Rattle.reference_price.specs.Columns.{BookReads, DealsFit, best_price, ggfs_from}
use Rattle.reference_price.proofs.Ggfs.{ggf_is, ggfs_are}
use Rattle.contract_phases.proofs.Phases.{phases_length, listed, kept_same, closing_order, closing_is, open_is}
use Rattle.close_of_day.specs.Closed.{closed}

-- ---- undamaged tables
pub book_reads : (head book : List ℕ) → HeadFit head → BookFit head book → BookReads (order_count_in head) book
book_reads head book h b =
    record {
      most_orders_holds = h.most_orders_holds;
      long = b.long;
      contract_below = λ i k. (b.order_fit i k).contract_below;
      most_side = λ i k. (b.order_fit i k).most_side;
      least_lots = λ i k. (b.order_fit i k).least_lots;
      least_price = λ i k. (b.order_fit i k).least_price;
      most_price_holds = λ i k. (b.order_fit i k).most_price_holds;
      most_time = λ i k. (b.order_fit i k).most_time;
    }

pub deals_fit : (head prices : List ℕ) → HeadFit head → PricesFit (lots_run_in head) prices → DealsFit prices
deals_fit head prices h p =
    record {
      long = p.long;
      most_lots_holds = λ c k. omega (arith, (p.contract_fit c k).most_day_lots, h.most_run);
      most_value = λ c k. omega (arith, (p.contract_fit c k).most_day_value, (p.contract_fit c k).most_day_lots, h.most_run);
    }

-- ---- prices
all_take : (P : ℕ → Type 0) (n : ℕ) (l : List ℕ) → All P l → All P (take n l)
all_take P zero l a = tt
all_take P (suc n) [] a = tt
all_take P (suc n) (x ∷ l) a = (a.0, all_take P n l a.1)

open_below : (column : List Phase) → All (λ c. c < contract_count) (all_open_in column)
unfolding all_open_in open_in
open_below column =
    all_append (λ c. c < contract_count) (open_in column Year) (open_in column Quarter ++ open_in column Month) (of Year)
    (all_append (λ c. c < contract_count) (open_in column Quarter) (open_in column Month) (of Quarter) (of Month))
  where
    of : (s : ContractKind) → All (λ c. c < contract_count) (open_in column s)
    of s =
        all_take (λ c. c < contract_count) (open_count s) (kept (waits column) (contracts_of s))
        (all_map (λ c. (c < contract_count) × (waits column c ≡ true)) (λ c. c < contract_count) (kept (waits column) (contracts_of s)) (λ c h. h.0)
        (all_kept (λ c. c < contract_count) (waits column) (contracts_of s) (listed (λ c. c < contract_count) (λ c h. omega arith) s)))

pub priced_is : (t : Tables) (s : ℕ) (buys sells : List ℕ) → prices_length ≤ length t.prices → All (λ o. 1 ≤ o.price.0) (orders t)
    → ((c : ℕ) → c < contract_count → get_or buys c 0 ≡ best_price (day t) s Buy (orders t) c) → ((c : ℕ) → c < contract_count → get_or sells c 0 ≡ best_price (day t) s Sell (orders t) c)
    → without_deals (ggfs_from buys sells (all_open_in (phases (calendar t) (day t))) t.prices) ≡ (priced s t).prices
unfolding priced
priced_is t s buys sells long priced_orders e f =
    let column = phases (calendar t) (day t) in
    ap without_deals (ggfs_are t s buys sells (all_open_in column) t.prices long (open_below column) (λ c h. ggf_is t s priced_orders buys sells c (e c h) (f c h)))
    ∙ rw (open_is (calendar t) (day t))

-- ---- orders
pub orders_closed : (column : List Phase) (book : List ℕ) (n : ℕ) → length column ≡ term_count
    → kept (λ o. not (is_of_any (closing column) o)) (orders_in n book) ≡ kept (λ o. not (closes column o.contract)) (orders_in n book)
unfolding is_of_any
orders_closed column book n e =
    kept_same (λ o. not (is_of_any (closing column) o)) (λ o. not (closes column o.contract)) (orders_in n book)
    (all_orders (λ o. not (is_of_any (closing column) o) ≡ not (closes column o.contract)) book n (λ i h. ap not (closing_order column e (order_at book i).contract)))

-- ---- the parts put together
pub closed_is : (u : Tables) (s d : ℕ) (prices : List ℕ) (lots value : List ℤ) → prices ≡ (priced s u).prices
    → lots ≡ all_cascaded (members u) (closing (phases (calendar u) (day u))) u.lots → value ≡ all_cascaded (members u) (closing (phases (calendar u) (day u))) u.value
    → on_day d (with_orders (kept (λ o. not (closes (phases (calendar u) (day u)) o.contract)) (orders u)) (with_prices prices (with_rows lots value u))) ≡ closed s d u
unfolding closed with_closed priced closing_contracts orders with_orders
closed_is u s d prices lots value ep el ev =
    rw (ep, el, ev, ← orders_closed (phases (calendar u) (day u)) u.book (order_count u) (phases_length (calendar u) (day u)), closing_is (calendar u) (day u))

-- ---- the causes
module _ (t : Tables) where
  no_next : next_business_day (calendar t) (day t) ≡ None → has_next_day t ≡ false
  unfolding has_next_day
  no_next e = ap (λ z. elim z [ Some d ↦ true | None ↦ false ]) e

  has_next : (d : DayNo) → next_business_day (calendar t) (day t) ≡ Some d → has_next_day t ≡ true
  unfolding has_next_day
  has_next d e = ap (λ z. elim z [ Some x ↦ true | None ↦ false ]) e

  next_is : (d : DayNo) → next_business_day (calendar t) (day t) ≡ Some d → next_day t ≡ d.0
  unfolding next_day
  next_is d e = ap (λ z. elim z [ Some x ↦ x.0 | None ↦ day t ]) e

  pub close_last : (s : ℕ) → time t ≤ s → next_business_day (calendar t) (day t) ≡ None → close_spec t s ≡ record { answer = Err NoLaterDay; after = t }
  unfolding close_spec
  close_last s h e = rw (le-ltb s (time t) h, no_next e)

  pub close_next : (s : ℕ) (d : DayNo) → time t ≤ s → next_business_day (calendar t) (day t) ≡ Some d → close_spec t s ≡ record { answer = Ok 0; after = closed s d.0 t }
  unfolding close_spec close_booked closed
  close_next s d h e = rw (le-ltb s (time t) h, has_next d e, next_is d e)
