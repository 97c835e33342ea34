-- An order is matched with the book of a ledger: what the columns and the tables hold. Assumes nothing.
use mathlib.Core.Path.{◌≡◌, sym, ap, ◌∙◌}
use mathlib.Core.List.{List, [], map}
use Prim.Native.Nat.{ℕ, ◌+◌, ◌*◌, ◌-◌, ◌≤◌, ◌<◌}
use native.Mathlib.Omega.{arith}
use native.Mathlib.Nat.{add-zero}
use lib.ListN.{length, get_or}
use lib.Seq.{set-get_or}
use Rattle.arith.specs.Lists.{from, total, All}
use Rattle.rules.specs.Ledger.{order_count_place}
use Rattle.rules.specs.declared.order.Order.{Order}
use Rattle.rules.specs.Ranges.{most_lots}
use Rattle.rules.specs.Ledger.{Tables, zero_tables, with_head, with_book, with_orders, with_dealt, day_lots_place, day_value_place}
use Rattle.rules.specs.Matching.{matched, Deal}
use Rattle.tables.specs.Fit.{order_count_in, orders_in}
use Rattle.order_book.specs.Left.{left_over}
use Rattle.order_book.proofs.Left.{orders_length, all_orders}
use Rattle.matching.specs.declared.levels.Matched.{Matched}
use Rattle.order_priority.specs.Priority.{Ranked}
use Rattle.matching.specs.Ranks.{lots_of}
use Rattle.matching.specs.Crossing.{crossing_in}
use Rattle.matching.specs.Deals.{deal_width, deals_in, counterparty_of}
use Rattle.matching.specs.Matching.{Matchable, Ended, MatchMade}
use Rattle.matching.proofs.Totals.{dealt_and_left, lots_kept, worth_kept}
use Rattle.submit.specs.Deals.{DealColumnFit, Tradable, Traded, lots_dealt, worth_of}
use Rattle.submit_causes.proofs.Judged.{still, resting_still}
use Rattle.submit.proofs.Kept.{total_at}
use Rattle.submit.proofs.Orders.{written_back}
use Rattle.rules.proofs.Distinct.{Distinct, distinct_orders}

module _ (head prices book : List ℕ) (o : Order) (x : Tradable head prices book o) where
  abbrev n : ℕ
  n = order_count_in head

  abbrev os : List Order
  os = orders_in n book

  pub matchable : (many : ℕ) → many ≡ n → Matchable o book many
  matchable many e =
      rw e
      (record {
        least_lots = x.least_lots;
        most_lots_holds = x.most_lots_holds;
        long = x.book_long;
        most_orders_holds = x.most_orders_holds;
        ranked = x.ranked;
        has_lots_holds = x.has_lots_holds;
        numbers_distinct = x.numbers_distinct;
      })

  -- ---- after the deals, which stand in a column
  module _ (m : Matched) (first left deals : List ℕ) (many : ℕ) (count : many ≡ n) (long : length deals ≡ length first) (room : most_lots * deal_width ≤ length first)
      (made : MatchMade o book many first m left deals) where
    pub ended : Ended o os left m.left.0 (deals_in m.deals deals)
    ended = rw count at made.ended

    lots_dealt_lem : total lots_dealt (deals_in m.deals deals) + m.left.0 ≡ o.lots.0
    lots_dealt_lem = omega (arith, dealt_and_left o os, lots_kept (matched o os).deals, ap (total lots_dealt) ended.deals, ended.lots)

    pub left_most : m.left.0 ≤ o.lots.0
    left_most = omega (arith, lots_dealt_lem)

    pub deals_fit : DealColumnFit m.deals deals
    deals_fit =
        record {
          room = omega (arith, long, room);
          most = made.few;
          most_price_holds = λ j h. let b = made.from_book j h in omega (arith, b.price, (x.ranked b.place (omega (arith, b.below, count))).price);
          most_lots_holds = λ j h. omega (arith, total_at deals lots_dealt j m.deals h, lots_dealt_lem, x.most_lots_holds);
        }

    pub traded : (head' prices' book' : List ℕ) (worth : ℕ) → worth ≡ total worth_of (deals_in m.deals deals)
        → prices' ≡ with_dealt o.contract (get_or prices (day_lots_place o.contract) 0 + (o.lots.0 - m.left.0)) (get_or prices (day_value_place o.contract) 0 + worth) prices
        → ((t : Tables) → with_head head' (with_book book' t) ≡ with_orders (left_over left os) (with_head head (with_book book t)))
        → Traded o head prices book m head' prices' book' deals
    unfolding with_orders
    traded head' prices' book' worth w p k =
        let ds = (matched o os).deals in
        let lots : o.lots.0 - m.left.0 ≡ total (λ d. d.lots) ds = omega (arith, dealt_and_left o os, ended.lots) in
        let value : worth ≡ total (λ d. d.lots * d.resting.price.0) ds = w ∙ ap (total worth_of) (sym ended.deals) ∙ sym (worth_kept ds) in
        let kept = k zero_tables in
        record {
          head_after = rw ended.resting (ap (λ t. t.head) kept);
          prices-after = p ∙ ap (λ q. with_dealt o.contract (get_or prices (day_lots_place o.contract) 0 + q) (get_or prices (day_value_place o.contract) 0 + worth) prices) lots
              ∙ ap (λ v. with_dealt o.contract (get_or prices (day_lots_place o.contract) 0 + total (λ d. d.lots) ds) (get_or prices (day_value_place o.contract) 0 + v) prices) value;
          book_after_holds = rw ended.resting (ap (λ t. t.book) kept);
          deals_kept = ended.deals;
          lots_left = ended.lots;
          few = made.few;
          from_book = rw count at made.from_book;
        }

  -- ---- no lots cross
  module _ (none : crossing_in o os ≡ 0) where
    ranked : All Ranked os
    ranked = all_orders Ranked book n x.ranked

    has_lots_holds : All (λ r. 0 < r.lots.0) os
    has_lots_holds = all_orders (λ r. 0 < r.lots.0) book n x.has_lots_holds

    apart : Distinct os
    apart = distinct_orders os x.numbers_distinct

    untouched : Ended o os (map lots_of os) o.lots.0 []
    untouched = still o os ranked apart has_lots_holds x.least_lots none

    nothing : (ds : List Deal) → map counterparty_of ds ≡ [] → (total (λ d. d.lots) ds ≡ 0) × (total (λ d. d.lots * d.resting.price.0) ds ≡ 0)
    unfolding total
    nothing ds e = (lots_kept ds ∙ ap (total lots_dealt) e, worth_kept ds ∙ ap (total worth_of) e)

    pub untraded : (deals : List ℕ) → Traded o head prices book (record { deals = 0; left = o.lots }) head prices book deals
    unfolding deals_in from
    untraded deals =
        let rs = resting_still o os ranked apart has_lots_holds x.least_lots none in
        let zero-dealt = nothing (matched o os).deals untouched.deals in
        let c = o.contract in
        record {
          head_after = rw (rs, orders_length book n) (sym (set-get_or head order_count_place 0));
          prices-after =
              rw (zero-dealt.0, zero-dealt.1, add-zero (get_or prices (day_lots_place c) 0), add-zero (get_or prices (day_value_place c) 0), set-get_or prices (day_lots_place c) 0)
              (sym (set-get_or prices (day_value_place c) 0));
          book_after_holds = rw rs (sym (written_back book n (omega (arith, x.most_orders_holds, x.book_long)) x.most_side));
          deals_kept = untouched.deals;
          lots_left = untouched.lots;
          few = omega arith;
          from_book = λ j h. absurd (omega arith);
        }
