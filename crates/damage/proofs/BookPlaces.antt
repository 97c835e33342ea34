-- The book's test place by place, as the code makes it, is the rules' test of its orders. Assumes nothing.
use Rattle.std.proofs.Common.{◌≡◌, ℕ, ◌≤◌, Bool, ◌&&◌, leb, map, arith}
use mathlib.Core.Bool.{and_assoc, and_comm}
use mathlib.Core.List.{map-map}
use Rattle.arith.specs.Lists.{every, all_of, from}
use Rattle.arith.proofs.Tests.{and_true}
use Rattle.arith.proofs.Scans.{every_same, every_both, every_map}
use Rattle.rules.specs.Ranges.{most_price}
use Rattle.rules.specs.Days.{Calendar, span_start, day_after_span, in_span}
use Rattle.rules.proofs.CalendarLaws.{month_le}
use Rattle.rules.specs.Ledger.{Tables, calendar, members, accepted_submits, order_count, order_at, side_at, orders}
use Rattle.rules.specs.Refusals.{distinct, order_sound, sides_sound, book_sound}
use Rattle.months.specs.declared.months.Span.{Span}
use Rattle.months.specs.Spans.{IsSpan}
use Rattle.damage.specs.Orders.{number_at, fields_in_range, place_sound, places_sound}
use Rattle.damage.proofs.InTurn.{up_to}

pub span_rises : (s : Span) (k : Calendar) → IsSpan s k → s.start.0 ≤ s.end.0
unfolding span_start day_after_span
span_rises s k h = rw (h.starts, h.ends) (month_le _ _ (omega arith))

module _ (t : Tables) (s : Span) (span : IsSpan s (calendar t)) where
  place_is : (i : ℕ) → place_sound (accepted_submits t) (members t) s.start.0 s.end.0 t.book i ≡ leb (side_at t.book i) 1 && order_sound t (order_at t.book i)
  unfolding fields_in_range order_sound in_span all_of
  place_is i =
      let o = order_at t.book i in
      rw (up_to o.price.0 most_price, up_to o.lots.0 100, up_to (side_at t.book i) 1, span.starts, span.ends) (and_comm _ (leb (side_at t.book i) 1))

  pub book_is : places_sound (accepted_submits t) (members t) s.start.0 s.end.0 t.book (order_count t) && distinct (map (number_at t.book) (from 0 (order_count t))) ≡ book_sound t
  unfolding book_sound sides_sound orders all_of places_sound
  book_is =
      let places = from 0 (order_count t) in
      let side : ℕ → Bool = λ i. leb (side_at t.book i) 1 in
      let order : ℕ → Bool = λ i. order_sound t (order_at t.book i) in
      let numbers = distinct (map (number_at t.book) places) in
      rw (
        every_same (place_sound (accepted_submits t) (members t) s.start.0 s.end.0 t.book) (λ i. side i && order i) place_is places,
        every_both side order places,
        ← every_map (order_sound t) (order_at t.book) places,
        map-map (λ o. o.number) (order_at t.book) places,
        and_true numbers,
      )
      (and_assoc (every side places) (every (order_sound t) (map (order_at t.book) places)) numbers)
