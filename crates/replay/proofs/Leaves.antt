-- What an accepted record leaves as it was: the line table past its lines, the book past its orders, and other surplus. Assumes nothing.
use Prim.Native.Nat.{ℕ, ◌*◌, ◌≤◌, ◌<◌}
use mathlib.Core.Path.{◌≡◌, refl, sym, ap, ◌∙◌}
use mathlib.Core.Bool.{Bool, not, cond}
use mathlib.Core.List.{List, flat_map}
use native.Mathlib.Omega.{arith}
use lib.Dec.{ltb}
use lib.ListN.{length, get_or, set}
use lib.IntN.{pos}
use Rattle.arith.specs.Lists.{All, kept, over}
use Rattle.arith.proofs.Alls.{all_map}
use Rattle.arith.proofs.Appends.{flat_length}
use Rattle.arith.proofs.Overs.{over_outside}
use Rattle.arith.proofs.Tests.{by_bool}
use Rattle.rules.specs.declared.order.Order.{Order}
use Rattle.rules.specs.Answers.{Outcome}
use Rattle.rules.specs.Ranges.{term_count, most_members, most_orders}
use Rattle.rules.specs.Ledger.{Tables, Line, members, holiday_count, order_count, orders, order_width, order_places, book_length, time, day, calendar, with_head, line_width, line_places, with_orders, booked, without_submits, timed, time_place}
use Rattle.rules.specs.ContractTerms.{open_contracts}
use Rattle.rules.specs.CloseOfDay.{closing_contracts, is_of_any, priced, with_closed, next_day, on_day, close_booked}
use Rattle.rules.proofs.SoundTables.{Undamaged}
use Rattle.accounts.proofs.Books.{BookKept, orders_count}
use Rattle.accounts.proofs.Closes.{closing_today}
use Rattle.accounts.proofs.Lines as lines
use Rattle.accounts.proofs.OrdersAfter.{close_orders}
use Rattle.accounts.proofs.SameLengths.{Fits}
use Rattle.replay.specs.Surplus.{LinesUntouched, BookUntouched}
use Rattle.replay.proofs.Closing.{open_below}
use Rattle.replay.proofs.EachKind.{priced_orders}
use Rattle.replay.proofs.SurplusParts.{priced_stay}
use Rattle.replay.proofs.SurplusTables.{TablesSurplus, untouched, with_prices_lem, with_orders_lem, with_lines_lem, with_day_lem, with_closed_lem}

pub record Leaves (t : Tables) (o : Outcome Tables) : Type 0 where
  pub lines : LinesUntouched t o
  pub book : BookUntouched t o
  pub surplus : TablesSurplus (members t) (holiday_count t) t o.after

-- l' is the table l before something is written in it, w places for each of bs
past_written : {A B : Type 0} (z : A) (w : ℕ) (places : B → List A) → ((b : B) → length (places b) ≡ w)
    → (bs : List B) (l l' : List A) → l' ≡ l → length bs * w ≤ length l → (i : ℕ) → length bs * w ≤ i → get_or (over 0 (flat_map places bs) l') i z ≡ get_or l i z
past_written z w places each bs l l' e fit i past =
    let xs = flat_map places bs in
    let wide = flat_length w places each bs in
    over_outside 0 xs l' (omega (arith, ap length e)) i z (λ _. omega arith) ∙ ap (λ x. get_or x i z) e

-- the orders os that a record leaves were written in the book l'
past_orders : (t v : Tables) (os : List Order) (l' : List ℕ) → l' ≡ t.book → book_length ≤ length t.book → orders v ≡ os → order_count v ≤ most_orders → v.book ≡ over 0 (flat_map order_places os) l'
    → (i : ℕ) → order_count v * order_width ≤ i → get_or v.book i 0 ≡ get_or t.book i 0
past_orders t v os l' e long is few w i h =
    let count : length os ≡ order_count v = sym (ap length is) ∙ orders_count v in
    ap (λ x. get_or x i 0) w ∙ past_written 0 order_width order_places (λ _. refl) os t.book l' e (omega arith) i (omega arith)

-- the orders that a record leaves are 256 at most
most_left : (v : Tables) (os : List Order) → orders v ≡ os → BookKept v → length os ≤ most_orders
most_left v os is k = omega (arith, orders_count v, ap length is, k.few)

-- tables v on their way from t: lines and book are not written yet
pub record Unwritten (t v : Tables) : Type 0 where
  pub lines : v.lines ≡ t.lines
  pub book : v.book ≡ t.book

-- an accepted record's time is no part of either
pub timed_unwritten : (s : ℕ) (t : Tables) → Unwritten t (timed s t)
unfolding timed
timed_unwritten s t =
    by_bool (λ b. Unwritten t (cond b (with_head (set (without_submits t).head time_place s) t) t)) (ltb (time t) s)
    (λ _. record { lines = refl; book = refl }) (λ _. record { lines = refl; book = refl })

module _ (t : Tables) (u : Undamaged t) where
  few : members t ≤ most_members
  few = u.head.members_range.to

  lines_left : (v : Tables) (ls : List Line) → v.lines ≡ t.lines → Fits t (booked ls v) → LinesUntouched t (booked ls v)
  unfolding booked
  lines_left v ls e f i h = past_written (pos 0) line_width line_places (λ _. refl) ls t.lines v.lines e (omega (arith, u.lines, f.few refl)) i (h refl)

  -- a record that writes no order
  pub booked_leaves : (v : Tables) (ls : List Line) → Unwritten t v → TablesSurplus (members t) (holiday_count t) t v → All (lines.Fits (members t)) ls → Fits t (booked ls v) → Leaves t (booked ls v)
  booked_leaves v ls e a fit f = record {
    lines = lines_left v ls e.lines f;
    book = λ i h. unfold booked in ap (λ l. get_or l i 0) e.book;
    surplus = with_lines_lem few a ls fit;
  }

  -- one that writes the orders os
  pub ordered_leaves : (v : Tables) (os : List Order) (ls : List Line) → Unwritten t v → TablesSurplus (members t) (holiday_count t) t v → orders (booked ls (with_orders os v)).after ≡ os
      → All (lines.Fits (members t)) ls → Fits t (booked ls (with_orders os v)) → BookKept (booked ls (with_orders os v)).after → Leaves t (booked ls (with_orders os v))
  ordered_leaves v os ls e a is fit f k =
      let o = booked ls (with_orders os v) in
      record {
        lines = lines_left (with_orders os v) ls (unfold with_orders in e.lines) f;
        book = past_orders t o.after os v.book e.book u.long.book is k.few (unfold booked with_orders in refl);
        surplus = with_lines_lem few (with_orders_lem few a os (most_left o.after os is k)) ls fit;
      }

  pub close_leaves : (s : ℕ) → BookKept (close_booked t s).after → Leaves t (close_booked t s)
  close_leaves s k =
      let cs = closing_contracts t in
      let others : Order → Bool = λ o. not (is_of_any cs o) in
      let left = close_orders t u s in
      let most = most_left (close_booked t s).after (kept others (orders t)) left k in
      let prices = priced_stay t s (open_contracts (calendar t) (day t)) (open_below (calendar t) (day t)) u.long.prices in
      let listed = all_map _ (λ c. c < term_count) cs (λ c x. x.0) (closing_today t) in
      record {
        lines = unfold close_booked priced with_closed with_orders on_day in λ i h. refl;
        book =
            past_orders t (close_booked t s).after (kept others (orders t)) t.book refl u.long.book left k.few
            (unfold close_booked priced with_closed with_orders on_day in ap (λ (os : List Order). over 0 (flat_map order_places (kept others os)) t.book) (priced_orders s t));
        surplus = unfold close_booked priced in with_day_lem few (with_closed_lem few (with_prices_lem few (untouched t u) prices) cs listed (rw (priced_orders s t) most)) (next_day t);
      }
