-- A ledger that began fresh is never damaged by its own records: it answers 1 only for a short line table.
use mathlib.Core.Path.{◌≡◌, refl, ap}
use mathlib.Core.Bool.{true, false, not}
use mathlib.Core.List.{List, [], ◌∷◌}
use Prim.Native.Nat.{ℕ}
use lib.Dec.{T}
use lib.IntN.{ℤ}
use Rattle.arith.proofs.Alls.{hold_all}
use Rattle.arith.proofs.Tests.{passed, failed}
use Rattle.rules.specs.declared.event.Event.{Event}
use Rattle.rules.specs.declared.event.Leg.{Leg}
use Rattle.rules.specs.Header.{header_of, begins_with_header}
use Rattle.rules.specs.Ledger.{Tables, with_lines, members, orders, ledger_short, fresh}
use Rattle.rules.specs.Records.{is_close_of_day, event_sound}
use Rattle.rules.specs.Refusals.{head_sound, member_sound, prices_sound, order_sound, sides_sound, book_sound, damaged, ledger_unsound, unsound, kind_booked, apply_spec, make_spec}
use Rattle.rules.specs.Accounts.{Call, call_spec, after}
use Rattle.rules.proofs.SoundTables.{Long, long_enough, not_short, Undamaged}
use Rattle.rules.proofs.SoundHeaders.{header_gives, begun}
use Rattle.accounts.specs.EveryList.{NeverDamaged, OneForLinesAlone}
use Rattle.accounts.proofs.Answered.{one_is_unsound}
use Rattle.accounts.proofs.EachKind.{NoCause, every_call}
use Rattle.accounts.proofs.Fresh.{counts_of}
use Rattle.accounts.proofs.SameLengths.{fresh_lengths, stays_long}
use Rattle.accounts.proofs.Bounds.{WithinRun, each_within, rows_sound_holds, within_fresh}
use Rattle.accounts.proofs.RowsStay.{run_start, within_kept}
use Rattle.accounts.proofs.Books.{BookKept, empty_book}
use Rattle.accounts.proofs.HeadStays.{fresh_head_lem}
use Rattle.accounts.proofs.PricesStay.{fresh_prices_lem}
use Rattle.accounts.proofs.KindsKeep.{within_moved, kind_keeps}
use Rattle.accounts.proofs.TwoBookkeepers.{made}

-- ---- a ledger in order
pub record InOrder (t : Tables) : Type 0 where
  pub long : Long t
  pub head : head_sound t ≡ true
  pub prices : prices_sound t ≡ true
  pub rows : WithinRun t
  pub book : BookKept t

pub not_damaged : (t : Tables) → InOrder t → (ledger_short t ≡ false) × (damaged t ≡ false)
unfolding damaged
not_damaged t a = (not_short t a.long, ap not (hold_all _ (a.head, (a.prices, (rows_sound_holds t (each_within t a.rows), (a.book.sound, tt))))))

-- the line table is no part of it
lines_in_order : (l : List ℤ) (t : Tables) → InOrder t → InOrder (with_lines l t)
unfolding head_sound member_sound prices_sound book_sound sides_sound orders order_sound
lines_in_order l t a = record {
  long = record { head = a.long.head; prices = a.long.prices; lots = a.long.lots; value = a.long.value; book = a.long.book };
  head = a.head;
  prices = a.prices;
  rows = within_kept t (with_lines l t) (run_start t.head) refl refl a.rows;
  book = record { sound = a.book.sound; few = a.book.few };
}

-- ---- each kind of record keeps it
kind_in_order : (e : Event) (t : Tables) (legs : List Leg) → Undamaged t → event_sound (members t) e legs ≡ true → NoCause t e legs → InOrder t → InOrder (kind_booked t e legs).after
kind_in_order e t legs u q n a =
    let k = kind_keeps e t legs u q n in
    record { long = stays_long k.fits.lengths a.long; head = k.head; prices = k.prices; rows = within_moved (is_close_of_day e) t (kind_booked t e legs) k.rows a.rows; book = k.book }

apply_in_order : (t : Tables) (bytes : List ℕ) → InOrder t → InOrder (apply_spec t bytes).after
apply_in_order = every_call (λ t o. InOrder t → InOrder o.after) (λ t x q a. a) kind_in_order

-- ---- every list
in_order_after : (calls : List Call) (t : Tables) → InOrder t → InOrder (after t calls)
unfolding after
in_order_after [] t a = a
in_order_after (call ∷ calls) t a = in_order_after calls (call_spec t call).after (apply_in_order (with_lines call.lines t) call.bytes (lines_in_order call.lines t a))

fresh_in_order : (header : List ℕ) (t : Tables) → T (begins_with_header header) → Long t → InOrder (fresh (header_of header) t)
unfolding fresh
fresh_in_order header t b l =
    let h = header_of header in
    let f = header_gives h (begun header (passed _ b)) in
    record {
      long = stays_long (fresh_lengths h t f l) l;
      head = fresh_head_lem h t f l.head;
      prices = fresh_prices_lem h t l.prices;
      rows = within_fresh h t f l.head l.lots l.value;
      book = empty_book (fresh h t) (counts_of h f t.head l.head).3;
    }

-- ---- the theorems
in_order_holds : (header : List ℕ) (t : Tables) (calls : List Call) → T (begins_with_header header) → T (not (ledger_short t)) → InOrder (after (make_spec t header).after calls)
in_order_holds header t calls b long =
    let h = header_of header in
    let l = long_enough t (failed (ledger_short t) long) in
    rw (made header t b long) (in_order_after calls (fresh h t) (fresh_in_order header t b l))

pub never_damaged : NeverDamaged
never_damaged header t calls b long = not_damaged _ (in_order_holds header t calls b long)

pub one_for_lines_alone : OneForLinesAlone
unfolding unsound ledger_unsound
one_for_lines_alone header t calls b long call e =
    let v = with_lines call.lines (after (make_spec t header).after calls) in
    let whole = not_damaged v (lines_in_order call.lines _ (in_order_holds header t calls b long)) in
    rw (whole.0, whole.1) at (one_is_unsound v call.bytes e)
