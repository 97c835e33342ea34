-- What tables give that are neither short nor damaged. Assumes nothing.
use Prim.Native.Nat.{ℕ, ◌-◌, ◌≤◌, ◌<◌}
use mathlib.Core.Path.{◌≡◌}
use mathlib.Core.Bool.{true, false, ◌||◌}
use mathlib.Core.List.{map}
use native.Mathlib.Omega.{arith}
use lib.Dec.{ltb}
use lib.ListN.{length}
use borrow.Author.Tests.{leb-true, ltb-true, ltb-false, lt-ltb, le-leb, le-ltb, not-false}
use Rattle.arith.specs.Lists.{All}
use Rattle.arith.proofs.Alls.{all_hold, hold_all, all_map, every_all}
use Rattle.arith.proofs.Among.{every_from}
use Rattle.arith.proofs.Tests.{or_left, or_right, passed, passes}
use Rattle.rules.specs.declared.order.Order.{Order}
use Rattle.rules.specs.Ranges.{contract_count, last_second, most_holidays, most_members, most_limit, most_orders, most_price, most_lots, most_submits_in_second, most_lots_run, most_accepted_submits}
use Rattle.rules.specs.Days.{in_span}
use Rattle.rules.specs.Header.{calendar_sound, day_sound}
use Rattle.rules.specs.Ledger.{Tables, members, holiday_count, day, time, accepted_submits, lots_run, order_count, limit, mark, submits_this_second, calendar, head_length}
use Rattle.rules.specs.Ledger.{prices_length, rows_length, book_length, lines_length, orders, ledger_short, lines_short}
use Rattle.rules.specs.Refusals.{member_sound, head_sound, prices_sound, rows_sound, order_sound, sides_sound, distinct, book_sound, damaged, ledger_unsound, unsound}
use Rattle.rules.proofs.SoundEvents.{InRange, in_range, price_in_range, lots_in_range, contract_below}

-- ---- lengths
pub record Long (t : Tables) : Type 0 where
  pub head : head_length ≤ length t.head
  pub prices : prices_length ≤ length t.prices
  pub lots : rows_length ≤ length t.lots
  pub value : rows_length ≤ length t.value
  pub book : book_length ≤ length t.book

pub long_enough : (t : Tables) → ledger_short t ≡ false → Long t
unfolding ledger_short
long_enough t e =
    let headShort = ltb (length t.head) head_length in
    let pricesShort = ltb (length t.prices) prices_length in
    let lotsShort = ltb (length t.lots) rows_length in
    let valueShort = ltb (length t.value) rows_length in
    let bookShort = ltb (length t.book) book_length in
    let four = or_left (headShort || pricesShort || lotsShort || valueShort) bookShort e in
    let three = or_left (headShort || pricesShort || lotsShort) valueShort four in
    let two = or_left (headShort || pricesShort) lotsShort three in
    record {
      head = ltb-false (length t.head) head_length (or_left headShort pricesShort two);
      prices = ltb-false (length t.prices) prices_length (or_right headShort pricesShort two);
      lots = ltb-false (length t.lots) rows_length (or_right (headShort || pricesShort) lotsShort three);
      value = ltb-false (length t.value) rows_length (or_right (headShort || pricesShort || lotsShort) valueShort four);
      book = ltb-false (length t.book) book_length (or_right (headShort || pricesShort || lotsShort || valueShort) bookShort e);
    }

pub not_short : (t : Tables) → Long t → ledger_short t ≡ false
unfolding ledger_short
not_short t a =
    rw (
      le-ltb (length t.head) head_length a.head,
      le-ltb (length t.prices) prices_length a.prices,
      le-ltb (length t.lots) rows_length a.lots,
      le-ltb (length t.value) rows_length a.value,
      le-ltb (length t.book) book_length a.book,
    )

-- ---- the head
pub record SoundMember (t : Tables) (m : ℕ) : Type 0 where
  pub limit≤ : limit t m ≤ most_limit
  pub mark≤ : mark t m ≤ 1
  pub submits≤ : submits_this_second t m ≤ most_submits_in_second

pub record SoundHead (t : Tables) : Type 0 where
  pub holidays≤ : holiday_count t ≤ most_holidays
  pub calendar_sound_holds : calendar_sound (calendar t) ≡ true
  pub members_range : InRange 1 (members t) most_members
  pub day_sound_holds : day_sound (calendar t) (day t) ≡ true
  pub time≤ : time t ≤ last_second
  pub accepted≤ : accepted_submits t ≤ most_accepted_submits
  pub run≤ : lots_run t ≤ most_lots_run
  pub orders≤ : order_count t ≤ most_orders
  pub each : (m : ℕ) → m < members t → SoundMember t m

member_gives : (t : Tables) (m : ℕ) → member_sound t m ≡ true → SoundMember t m
unfolding member_sound
member_gives t m e =
    let a = all_hold _ e in
    record { limit≤ = leb-true (limit t m) most_limit a.0; mark≤ = leb-true (mark t m) 1 a.1.0; submits≤ = leb-true (submits_this_second t m) most_submits_in_second a.1.1.0 }

pub head_gives : (t : Tables) → head_sound t ≡ true → SoundHead t
unfolding head_sound
head_gives t e =
    let a = all_hold _ e in
    record {
      holidays≤ = leb-true (holiday_count t) most_holidays a.0;
      calendar_sound_holds = a.1.0;
      members_range = in_range 1 (members t) most_members a.1.1.0;
      day_sound_holds = a.1.1.1.0;
      time≤ = leb-true (time t) last_second a.1.1.1.1.0;
      accepted≤ = leb-true (accepted_submits t) most_accepted_submits a.1.1.1.1.1.0;
      run≤ = leb-true (lots_run t) most_lots_run a.1.1.1.1.1.1.0;
      orders≤ = leb-true (order_count t) most_orders a.1.1.1.1.1.1.1.0;
      each = λ m h. member_gives t m (passed _ (every_from (member_sound t) 0 (members t) (passes _ a.1.1.1.1.1.1.1.1.0) m (omega arith) (omega arith)));
    }

-- ---- the book
pub record SoundOrder (t : Tables) (o : Order) : Type 0 where
  pub number< : o.number < accepted_submits t
  pub member< : o.member < members t
  pub contract< : o.contract < contract_count
  pub price : InRange 1 o.price.0 most_price
  pub lots : InRange 1 o.lots.0 most_lots
  pub day_in_span : in_span (calendar t) o.day.0 ≡ true
  pub time≤ : o.time ≤ last_second

pub order_gives : (t : Tables) (o : Order) → order_sound t o ≡ true → SoundOrder t o
unfolding order_sound
order_gives t o e =
    let a = all_hold _ e in
    record {
      number< = ltb-true o.number (accepted_submits t) a.0;
      member< = ltb-true o.member (members t) a.1.0;
      contract< = contract_below o.contract a.1.1.0;
      price = price_in_range o.price.0 a.1.1.1.0;
      lots = lots_in_range o.lots.0 a.1.1.1.1.0;
      day_in_span = a.1.1.1.1.1.0;
      time≤ = leb-true o.time last_second a.1.1.1.1.1.1.0;
    }

pub order_sound_lem : (t : Tables) (o : Order) → SoundOrder t o → order_sound t o ≡ true
unfolding order_sound
order_sound_lem t o s =
    let p = o.price.0 in
    let q = o.lots.0 in
    hold_all _ (
      lt-ltb o.number (accepted_submits t) s.number<,
      (
        lt-ltb o.member (members t) s.member<,
        (
          le-leb o.contract (contract_count - 1) (omega (arith, s.contract<)),
          (
            rw (le-leb 1 p s.price.from) (le-leb p most_price s.price.to),
            (rw (le-leb 1 q s.lots.from) (le-leb q most_lots s.lots.to), (s.day_in_span, (le-leb o.time last_second s.time≤, tt))),
          ),
        ),
      ),
    )

pub record SoundBook (t : Tables) : Type 0 where
  pub sides : sides_sound t ≡ true
  pub each : All (SoundOrder t) (orders t)
  pub numbers : distinct (map (λ o. o.number) (orders t)) ≡ true

pub book_gives : (t : Tables) → book_sound t ≡ true → SoundBook t
unfolding book_sound
book_gives t e =
    let a = all_hold _ e in
    record { sides = a.0; each = all_map (λ o. order_sound t o ≡ true) (SoundOrder t) (orders t) (order_gives t) (every_all (order_sound t) (orders t) a.1.0); numbers = a.1.1.0 }

-- ---- all of it
pub record Undamaged (t : Tables) : Type 0 where
  pub long : Long t
  pub lines : lines_length ≤ length t.lines
  pub head_sound_holds : head_sound t ≡ true
  pub prices_sound_holds : prices_sound t ≡ true
  pub rows_sound_holds : rows_sound t ≡ true
  pub book_sound_holds : book_sound t ≡ true
  pub head : SoundHead t
  pub book : SoundBook t

pub undamaged : (t : Tables) → unsound t ≡ false → Undamaged t
unfolding unsound ledger_unsound damaged lines_short
undamaged t e =
    let ledger = or_left (ledger_unsound t) (lines_short t) e in
    let a = all_hold _ (not-false _ (or_right (ledger_short t) (damaged t) ledger)) in
    record {
      long = long_enough t (or_left (ledger_short t) (damaged t) ledger);
      lines = ltb-false (length t.lines) lines_length (or_right (ledger_unsound t) (lines_short t) e);
      head_sound_holds = a.0;
      prices_sound_holds = a.1.0;
      rows_sound_holds = a.1.1.0;
      book_sound_holds = a.1.1.1.0;
      head = head_gives t a.0;
      book = book_gives t a.1.1.1.0;
    }
