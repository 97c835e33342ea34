-- Tables on their way from t, whose surplus that is no place for an order is as it was: each write of a record keeps it. Assumes nothing.
use Prim.Native.Nat.{ℕ, ◌+◌, ◌≤◌, ◌<◌}
use mathlib.Core.Path.{◌≡◌, refl, ◌∙◌}
use mathlib.Core.Bool.{not, cond}
use mathlib.Core.List.{List, flat_map}
use native.Mathlib.Omega.{arith}
use lib.Dec.{ltb}
use lib.ListN.{length, get_or, set}
use Rattle.arith.specs.Lists.{All, kept}
use Rattle.arith.proofs.Appends.{flat_length}
use Rattle.arith.proofs.Overs.{over_length, over_outside}
use Rattle.arith.proofs.Tests.{by_bool}
use Rattle.rules.specs.declared.order.Order.{Order}
use Rattle.rules.specs.Ranges.{contract_count, term_count, most_members, most_orders}
use Rattle.rules.specs.Ledger.{Tables, Line, with_head, with_prices, members, holiday_count, time, accepted_submits, lots_run, submits_this_second, orders}
use Rattle.rules.specs.Ledger.{day_place, time_place, accepted_submits_place, lots_run_place, order_count_place, marks_from, submits_from, day_lots_place, day_value_place, low_place, high_place, order_width, book_length}
use Rattle.rules.specs.Ledger.{order_places, with_orders, line_lots, line_value, line_run, booked, without_submits, timed, with_mark, default_mark, with_day_limits}
use Rattle.rules.specs.Matching.{Deal, with_deals, counted}
use Rattle.rules.specs.CloseOfDay.{is_of_any, with_closed, on_day}
use Rattle.rules.proofs.SoundTables.{Undamaged}
use Rattle.accounts.proofs.Lines.{Fits}
use Rattle.replay.specs.Surplus.{of_ledger, of_mark, of_submits}
use Rattle.replay.proofs.SurplusParts.{HeadSurplus, head_set, head_zeros, PricesSurplus, price_set, RowsSurplus, posted_stay, all_cascaded_stay}

pub record TablesSurplus (n k : ℕ) (t v : Tables) : Type 0 where
  pub head : HeadSurplus n k t.head v.head
  pub prices : PricesSurplus t.prices v.prices
  pub lots : RowsSurplus n t.lots v.lots
  pub value : RowsSurplus n t.value v.value
  pub book_long : book_length ≤ length v.book
  pub book : (i : ℕ) → book_length ≤ i → get_or v.book i 0 ≡ get_or t.book i 0

pub untouched : (t : Tables) → Undamaged t → TablesSurplus (members t) (holiday_count t) t t
untouched t u = record {
  head = record { long = u.long.head; size = refl; count = refl; places = λ _ _. refl };
  prices = record { places = λ _ _. refl };
  lots = record { long = u.long.lots; places = λ _ _ _. refl };
  value = record { long = u.long.value; places = λ _ _ _. refl };
  book_long = u.long.book;
  book = λ _ _. refl;
}

module _ {n k : ℕ} {t v : Tables} (few : n ≤ most_members) (a : TablesSurplus n k t v) where
  pub with_head_lem : {l : List ℕ} → HeadSurplus n k t.head l → TablesSurplus n k t (with_head l v)
  with_head_lem h = record { head = h; prices = a.prices; lots = a.lots; value = a.value; book_long = a.book_long; book = a.book }

  pub with_prices_lem : {l : List ℕ} → PricesSurplus t.prices l → TablesSurplus n k t (with_prices l v)
  with_prices_lem p = record { head = a.head; prices = p; lots = a.lots; value = a.value; book_long = a.book_long; book = a.book }

  pub with_orders_lem : (os : List Order) → length os ≤ most_orders → TablesSurplus n k t (with_orders os v)
  unfolding with_orders
  with_orders_lem os most =
      let xs = flat_map order_places os in
      let wide = flat_length order_width order_places (λ _. refl) os in
      let fit : 0 + length xs ≤ length v.book = omega (arith, a.book_long) in
      record {
        head = head_set a.head order_count_place (length os) (omega arith) (of_ledger (omega arith));
        prices = a.prices;
        lots = a.lots;
        value = a.value;
        book_long = omega (arith, over_length 0 xs v.book fit, a.book_long);
        book = λ i h. over_outside 0 xs v.book fit i 0 (λ _. omega arith) ∙ a.book i h;
      }

  pub with_lines_lem : (ls : List Line) → All (Fits n) ls → TablesSurplus n k t (booked ls v).after
  unfolding booked
  with_lines_lem ls fit = record {
    head = head_set a.head lots_run_place (lots_run v + line_run ls) (omega arith) (of_ledger (omega arith));
    prices = a.prices;
    lots = posted_stay few line_lots ls fit a.lots;
    value = posted_stay few line_value ls fit a.value;
    book_long = a.book_long;
    book = a.book;
  }

  without_submits_lem : HeadSurplus n k t.head (without_submits v).head
  unfolding without_submits
  without_submits_lem = rw a.head.size (head_zeros a.head few)

  pub with_time_lem : (s : ℕ) → TablesSurplus n k t (timed s v)
  unfolding timed
  with_time_lem s =
      by_bool (λ b. TablesSurplus n k t (cond b (with_head (set (without_submits v).head time_place s) v) v)) (ltb (time v) s)
      (λ _. with_head_lem (head_set without_submits_lem time_place s (omega arith) (of_ledger (omega arith)))) (λ _. a)

  pub with_counted : (m : ℕ) → m < n → TablesSurplus n k t (counted m v)
  unfolding counted
  with_counted m h =
      with_head_lem (head_set (head_set a.head (submits_from + m) (submits_this_second v m + 1) (omega arith) (of_submits m h refl)) accepted_submits_place (accepted_submits v + 1) (omega arith) (of_ledger (omega arith)))

  pub with_mark_lem : (m : ℕ) → m < n → TablesSurplus n k t (with_head (with_mark m v.head) v)
  with_mark_lem m h = with_head_lem (head_set a.head (marks_from + m) default_mark (omega arith) (of_mark m h refl))

  pub with_day_lem : (d : ℕ) → TablesSurplus n k t (on_day d v)
  unfolding on_day
  with_day_lem d = with_head_lem (head_set (head_set without_submits_lem day_place d (omega arith) (of_ledger (omega arith))) time_place 0 (omega arith) (of_ledger (omega arith)))

  pub with_deals_lem : (c : ℕ) → c < contract_count → (ds : List Deal) → TablesSurplus n k t (with_deals c ds v)
  unfolding with_deals
  with_deals_lem c h ds = with_prices_lem (price_set (price_set a.prices (day_lots_place c) _ (omega arith)) (day_value_place c) _ (omega arith))

  pub with_limits : (c low high : ℕ) → c < contract_count → TablesSurplus n k t (with_prices (with_day_limits c low high v.prices) v)
  with_limits c low high h = with_prices_lem (price_set (price_set a.prices (low_place c) low (omega arith)) (high_place c) high (omega arith))

  pub with_closed_lem : (cs : List ℕ) → All (λ c. c < term_count) cs → length (kept (λ o. not (is_of_any cs o)) (orders v)) ≤ most_orders → TablesSurplus n k t (with_closed cs v)
  unfolding with_closed
  with_closed_lem cs b most =
      let w = with_orders_lem (kept (λ o. not (is_of_any cs o)) (orders v)) most in
      record {
        head = w.head;
        prices = w.prices;
        lots = rw a.head.size (all_cascaded_stay n few cs b a.lots);
        value = rw a.head.size (all_cascaded_stay n few cs b a.value);
        book_long = w.book_long;
        book = w.book;
      }
