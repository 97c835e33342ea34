-- Tables that are neither short nor damaged: what code may count on of them. Assumes nothing.
use mathlib.Core.Path.{◌≡◌, sym, ap, ◌∙◌}
use mathlib.Core.Bool.{Bool, true, false, ◌&&◌}
use mathlib.Core.List.{List}
use Prim.Native.Nat.{ℕ, ◌+◌, ◌*◌, ◌≤◌, ◌<◌}
use native.Mathlib.Omega.{arith}
use native.Mathlib.Nat.{add-zero}
use lib.Dec.{leb}
use lib.IntN.{ℤ, pos, nat_abs}
use lib.ListN.{length, get_or, take, length-take, length-drop}
use lib.Seq.{get_or-take}
use borrow.Author.Tests.{leb-true}
use Rattle.arith.proofs.Alls.{all_hold, every_all, all_place}
use Rattle.arith.proofs.Among.{every_from}
use Rattle.arith.proofs.EachBlock.{block, block_at, block_passes}
use Rattle.arith.specs.Lists.{every, from}
use Rattle.arith.proofs.Tests.{and_left, and_right, passed, passes}
use Rattle.rules.specs.Ledger.{price_width, row_width}
use Rattle.rules.specs.Ranges.{contract_count}
use Rattle.rules.specs.Ranges.{most_price}
use Rattle.rules.specs.Ledger.{Tables, calendar, members, lots_run, order_count, rows_length, side_at, order_at, orders}
use Rattle.rules.specs.Records.{side_sound}
use Rattle.rules.specs.Refusals.{contract_prices_sound, prices_sound, every_row, rows_sound, order_sound, sides_sound, book_sound, unsound}
use Rattle.tables.specs.Fit.{HeadFit, ContractFit, PricesFit, RowsFit, OrderFit, BookFit, Fits}
use Rattle.arith.proofs.Scans.{every_map}
use Rattle.rules.proofs.SoundHeaders.{calendar_gives}
use Rattle.rules.proofs.SoundTables.{Undamaged, undamaged, order_gives}

-- a test of each number below n holds of each of them
each_below : (p : ℕ → Bool) (n i : ℕ) → every p (from 0 n) ≡ true → i < n → p i ≡ true
each_below p n i e h = passed (p i) (every_from p 0 n (passes _ e) i (omega arith) (omega arith))

head_fits : (t : Tables) → Undamaged t → HeadFit t.head
head_fits t u =
    let h = u.head in
    let years = (calendar_gives (calendar t) h.calendar_sound_holds).years in
    record {
      long = u.long.head;
      years = (years.from, years.to);
      most_holidays_holds = h.holidays≤;
      least_members = h.members_range.from;
      most_members_holds = h.members_range.to;
      today = h.day_sound_holds;
      most_time = h.time≤;
      most_accepted = h.accepted≤;
      most_run = h.run≤;
      most_orders_holds = h.orders≤;
      member_fit = λ m k. record { most_limit_holds = (h.each m k).limit≤; most_mark = (h.each m k).mark≤; most_submits = (h.each m k).submits≤ };
    }

contract_fits : (run : ℕ) (l : List ℕ) (c : ℕ) → contract_prices_sound run (block 5 c l) ≡ true → ContractFit run l c
unfolding contract_prices_sound
contract_fits run l c e =
    let all = all_hold _ e in
    let b = block 5 c l in
    let ggf-at : get_or b 0 0 ≡ get_or l (c * price_width) 0 = block_at 5 c 0 l 0 (omega arith) ∙ ap (λ i. get_or l i 0) (add-zero (c * price_width)) in
    let low-at = block_at 5 c 1 l 0 (omega arith) in
    let high-at = block_at 5 c 2 l 0 (omega arith) in
    let lots_at_lem = block_at 5 c 3 l 0 (omega arith) in
    let value_at_lem = block_at 5 c 4 l 0 (omega arith) in
    let low_and = and_left (leb 1 (get_or b 1 0) && leb (get_or b 1 0) (get_or b 2 0)) (leb (get_or b 2 0) most_price) all.1.0 in
    record {
      most_ggf = omega (arith, ggf-at, leb-true (get_or b 0 0) most_price all.0);
      least_low = omega (arith, low-at, leb-true 1 (get_or b 1 0) (and_left (leb 1 (get_or b 1 0)) (leb (get_or b 1 0) (get_or b 2 0)) low_and));
      low_high = omega (arith, low-at, high-at, leb-true (get_or b 1 0) (get_or b 2 0) (and_right (leb 1 (get_or b 1 0)) (leb (get_or b 1 0) (get_or b 2 0)) low_and));
      most_high = omega (arith, high-at, leb-true (get_or b 2 0) most_price (and_right (leb 1 (get_or b 1 0) && leb (get_or b 1 0) (get_or b 2 0)) (leb (get_or b 2 0) most_price) all.1.0));
      most_day_lots = omega (arith, lots_at_lem, leb-true (get_or b 3 0) run all.1.1.0);
      least_day_value = omega (arith, lots_at_lem, value_at_lem, leb-true (get_or b 3 0) (get_or b 4 0) all.1.1.1.0);
      most_day_value = omega (arith, lots_at_lem, value_at_lem, leb-true (get_or b 4 0) (most_price * get_or b 3 0) all.1.1.1.1.0);
    }

prices_fit : (t : Tables) → Undamaged t → PricesFit (lots_run t) t.prices
unfolding prices_sound
prices_fit t u =
    record {
      long = u.long.prices;
      contract_fit = λ c h. contract_fits (lots_run t) t.prices c (block_passes 5 (contract_prices_sound (lots_run t)) contract_count t.prices u.prices_sound_holds c h);
    }

rows_fit : (n b : ℕ) (l : List ℤ) → n ≤ 32 → rows_length ≤ length l → every_row (λ z. leb (nat_abs z) b) n l ≡ true → RowsFit n b l
unfolding every_row
rows_fit n b l few long e = record { long = long; within = λ c m h k. one c m h k (block_passes 32 (λ rows. every (λ z. leb (nat_abs z) b) (take n rows)) contract_count l e c h) }
  where
    one : (c m : ℕ) → c < contract_count → m < n → every (λ z. leb (nat_abs z) b) (take n (block 32 c l)) ≡ true → nat_abs (get_or l (c * row_width + m) (pos 0)) ≤ b
    one c m h k f =
        let rows = take n (block 32 c l) in
        let fits : length rows ≡ n = simp (length-take, length-drop) (omega arith) in
        let same : get_or rows m (pos 0) ≡ get_or l (c * row_width + m) (pos 0) = get_or-take n (block 32 c l) m (pos 0) k ∙ block_at 32 c m l (pos 0) (omega arith) in
        rw same at (leb-true _ b (all_place (λ z. leb (nat_abs z) b ≡ true) (pos 0) rows (every_all (λ z. leb (nat_abs z) b) rows f) m (omega arith)))

order_fits : (t : Tables) (i : ℕ) → side_sound (side_at t.book i) ≡ true → order_sound t (order_at t.book i) ≡ true → OrderFit t.head t.book i
order_fits t i s e =
    let o = order_gives t (order_at t.book i) e in
    record {
      number_below = o.number<;
      member_below = o.member<;
      contract_below = o.contract<;
      most_side = leb-true (side_at t.book i) 1 s;
      least_price = o.price.from;
      most_price_holds = o.price.to;
      least_lots = o.lots.from;
      most_lots_holds = o.lots.to;
      day_in_span = o.day_in_span;
      most_time = o.time≤;
    }

book_fits : (t : Tables) → Undamaged t → BookFit t.head t.book
unfolding sides_sound book_sound orders
book_fits t u =
    let all = all_hold _ u.book_sound_holds in
    let n = order_count t in
    let each : every (λ i. order_sound t (order_at t.book i)) (from 0 n) ≡ true = sym (every_map (order_sound t) (order_at t.book) (from 0 n)) ∙ all.1.0 in
    record {
      long = u.long.book;
      order_fit = λ i h. order_fits t i (each_below (λ i. side_sound (side_at t.book i)) n i all.0 h) (each_below (λ i. order_sound t (order_at t.book i)) n i each h);
      numbers_distinct = all.1.1.0;
    }

pub fits : (t : Tables) → unsound t ≡ false → Fits t
unfolding unsound rows_sound
fits t e =
    let u = undamaged t e in
    let few = u.head.members_range.to in
    let lots-test = every_row (λ z. leb (nat_abs z) (lots_run t)) (members t) t.lots in
    let value-test = every_row (λ z. leb (nat_abs z) (most_price * lots_run t)) (members t) t.value in
    record {
      head_fit = head_fits t u;
      prices_fit = prices_fit t u;
      lots_fit = rows_fit (members t) (lots_run t) t.lots few u.long.lots (and_left lots-test value-test u.rows_sound_holds);
      value_fit = rows_fit (members t) (most_price * lots_run t) t.value few u.long.value (and_right lots-test value-test u.rows_sound_holds);
      book_fit = book_fits t u;
      lines_long = u.lines;
    }
