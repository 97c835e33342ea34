-- The same writing done to two ledgers that agree but for surplus leaves them so. Assumes nothing.
use Prim.Native.Nat.{ℕ, ◌+◌, ◌*◌, ◌-◌, ◌≤◌, ◌<◌}
use mathlib.Core.Path.{◌≡◌, refl, sym, ap, subst, subst₂, ◌∙◌}
use mathlib.Core.Bool.{cond}
use mathlib.Core.List.{List, flat_map}
use native.Mathlib.Omega.{arith}
use lib.Dec.{ltb}
use lib.ListN.{length, get_or, set, drop, replicate, length-set, length-replicate, get_or-append}
use lib.Seq.{get_or-set_same, get_or-set_other}
use lib.IntN.{ℤ, pos, ◌+ℤ◌}
use Rattle.arith.specs.Lists.{All, over, total}
use Rattle.arith.proofs.Appends.{flat_length}
use Rattle.arith.proofs.Overs.{over_length, over_inside, over_outside}
use Rattle.arith.proofs.Tests.{by_bool, le_or_lt, same_or}
use Rattle.rules.specs.declared.order.Order.{Order}
use Rattle.rules.specs.Ranges.{contract_count, most_members}
use Rattle.rules.specs.Ledger.{Tables, Line, with_head, with_prices, head_length, members_place, holiday_count_place, day_place, time_place, accepted_submits_place, lots_run_place, order_count_place, marks_from, submits_from}
use Rattle.rules.specs.Ledger.{members, holiday_count, time, accepted_submits, lots_run, order_count, submits_this_second, price_width, prices_length, row_width, rows_length, order_width, order_places, with_orders, line_lots, line_value, line_run, posted, booked}
use Rattle.rules.specs.Ledger.{without_submits, timed, with_mark, default_mark, day_lots, day_value, with_dealt, day_lots_place, day_value_place, with_day_limits, low_place, high_place}
use Rattle.rules.specs.Matching.{Deal, with_deals, counted}
use Rattle.rules.specs.CloseOfDay.{on_day}
use Rattle.rules.specs.Accounts as column
use Rattle.rules.specs.Accounts.{Column, row}
use Rattle.rules.proofs.SoundTables.{Long, not_short}
use Rattle.accounts.proofs.Lines.{Fits, row_total}
use Rattle.accounts.proofs.Rows.{posted_length, posted_row}
use Rattle.replay.specs.Surplus.{InUse, of_ledger, of_submits, SameButSurplus}

-- ---- one place of two lists
module _ {A : Type 0} (z : A) (l l' : List A) (i : ℕ) (e : get_or l i z ≡ get_or l' i z) where
  pub set_alike : (j : ℕ) (v : A) → j < length l → j < length l' → get_or (set l j v) i z ≡ get_or (set l' j v) i z
  set_alike j v h h' =
      same_or i j (λ q. rw q (get_or-set_same l j v z h ∙ sym (get_or-set_same l' j v z h')))
      (λ q. get_or-set_other l j i v z q ∙ e ∙ sym (get_or-set_other l' j i v z q))

  pub over_alike : (a : ℕ) (xs : List A) → a + length xs ≤ length l → a + length xs ≤ length l' → get_or (over a xs l) i z ≡ get_or (over a xs l') i z
  over_alike a xs f f' =
      le_or_lt a i
      (λ h. le_or_lt (a + length xs) i (λ k. outside (λ _. k))
      (λ k. let q : i ≡ a + (i - a) = omega arith in
      rw q (over_inside a xs l f (i - a) z (omega arith) ∙ sym (over_inside a xs l' f' (i - a) z (omega arith)))))
      (λ h. outside (λ k. absurd (omega arith)))
    where
      outside : (a ≤ i → a + length xs ≤ i) → get_or (over a xs l) i z ≡ get_or (over a xs l') i z
      outside k = over_outside a xs l f i z k ∙ e ∙ sym (over_outside a xs l' f' i z k)

-- ---- two heads with n members, k holidays and q orders
pub record HeadsAlike (n k q : ℕ) (l l' : List ℕ) : Type 0 where
  pub long : head_length ≤ length l
  pub long' : head_length ≤ length l'
  pub size : get_or l members_place 0 ≡ n
  pub count : get_or l holiday_count_place 0 ≡ k
  pub orders : get_or l order_count_place 0 ≡ q
  pub places : (i : ℕ) → InUse n k i → get_or l i 0 ≡ get_or l' i 0

module _ {n k q : ℕ} {l l' : List ℕ} (a : HeadsAlike n k q l l') where
  -- a number is written; where it is the count of orders, that is then another
  heads_set : (q' j v : ℕ) → day_place ≤ j → j < head_length → get_or (set l j v) order_count_place 0 ≡ q' → HeadsAlike n k q' (set l j v) (set l' j v)
  heads_set q' j v h b e = record {
    long = simp length-set a.long;
    long' = simp length-set a.long';
    size = get_or-set_other l j members_place v 0 (λ x. omega arith) ∙ a.size;
    count = get_or-set_other l j holiday_count_place v 0 (λ x. omega arith) ∙ a.count;
    orders = e;
    places = λ i p. set_alike 0 l l' i (a.places i p) j v (omega (arith, a.long)) (omega (arith, a.long'));
  }

  pub heads_with : (j v : ℕ) → day_place ≤ j → j < head_length → (order_count_place ≡ j → ⊥) → HeadsAlike n k q (set l j v) (set l' j v)
  heads_with j v h b o = heads_set q j v h b (get_or-set_other l j order_count_place v 0 o ∙ a.orders)

  pub heads_counted : (q' : ℕ) → HeadsAlike n k q' (set l order_count_place q') (set l' order_count_place q')
  heads_counted q' = heads_set q' order_count_place q' (omega arith) (omega arith) (get_or-set_same l order_count_place q' 0 (omega (arith, a.long)))

  pub heads_zeros : n ≤ most_members → HeadsAlike n k q (over submits_from (replicate n 0) l) (over submits_from (replicate n 0) l')
  heads_zeros few =
      let fit : submits_from + length (replicate {A = ℕ} n 0) ≤ length l = omega (arith, length-replicate {A = ℕ} n 0, a.long) in
      let fit' : submits_from + length (replicate {A = ℕ} n 0) ≤ length l' = omega (arith, length-replicate {A = ℕ} n 0, a.long') in
      let before : (i : ℕ) → i < submits_from → get_or (over submits_from (replicate n 0) l) i 0 ≡ get_or l i 0 = λ i h. over_outside submits_from (replicate n 0) l fit i 0 (λ x. absurd (omega arith)) in
      record {
        long = omega (arith, over_length submits_from (replicate n 0) l fit, a.long);
        long' = omega (arith, over_length submits_from (replicate n 0) l' fit', a.long');
        size = before members_place (omega arith) ∙ a.size;
        count = before holiday_count_place (omega arith) ∙ a.count;
        orders = before order_count_place (omega arith) ∙ a.orders;
        places = λ i p. over_alike 0 l l' i (a.places i p) submits_from (replicate n 0) fit fit';
      }

-- ---- two ledgers
pub record PricesAlike (l l' : List ℕ) : Type 0 where
  pub long : prices_length ≤ length l
  pub long' : prices_length ≤ length l'
  pub places : (c j : ℕ) → c < contract_count → j < price_width → get_or l (c * price_width + j) 0 ≡ get_or l' (c * price_width + j) 0

pub prices_with : {l l' : List ℕ} → PricesAlike l l' → (i v : ℕ) → i < prices_length → PricesAlike (set l i v) (set l' i v)
prices_with {l} {l'} a i v h = record {
  long = simp length-set a.long;
  long' = simp length-set a.long';
  places = λ c j b d. set_alike 0 l l' (c * price_width + j) (a.places c j b d) i v (omega (arith, a.long)) (omega (arith, a.long'));
}

pub record RowsAlike (n : ℕ) (l l' : List ℤ) : Type 0 where
  pub long : rows_length ≤ length l
  pub long' : rows_length ≤ length l'
  pub places : (c m : ℕ) → c < contract_count → m < n → get_or l (c * row_width + m) (pos 0) ≡ get_or l' (c * row_width + m) (pos 0)

pub rows_posted : {n : ℕ} {l l' : List ℤ} → n ≤ most_members → (weigh : Line → ℤ) (ls : List Line) → All (Fits n) ls → RowsAlike n l l' → RowsAlike n (posted weigh ls l) (posted weigh ls l')
rows_posted {n} {l} {l'} few weigh ls fit a = record {
  long = omega (arith, posted_length weigh ls l, a.long);
  long' = omega (arith, posted_length weigh ls l', a.long');
  places = λ c m b d. posted_row n weigh ls l c m a.long fit few (omega arith) ∙ ap (λ r. r +ℤ row_total weigh c m ls) (a.places c m b d)
      ∙ sym (posted_row n weigh ls l' c m a.long' fit few (omega arith));
}

pub record Alike (n k q : ℕ) (t u : Tables) : Type 0 where
  pub head : HeadsAlike n k q t.head u.head
  pub prices : PricesAlike t.prices u.prices
  pub lots : RowsAlike n t.lots u.lots
  pub value : RowsAlike n t.value u.value
  pub book : (i j : ℕ) → i < q → j < order_width → get_or t.book (i * order_width + j) 0 ≡ get_or u.book (i * order_width + j) 0

pub alike_of : (t u : Tables) → SameButSurplus t u → Long t → Long u → Alike (members t) (holiday_count t) (order_count t) t u
alike_of t u s a b = record {
  head = record { long = a.head; long' = b.head; size = refl; count = refl; orders = refl; places = s.head };
  prices = record { long = a.prices; long' = b.prices; places = s.prices };
  lots = record { long = a.lots; long' = b.lots; places = λ c m h g. s.rows column.lots c m h g };
  value = record { long = a.value; long' = b.value; places = λ c m h g. s.rows column.value c m h g };
  book = s.book;
}

row_same : {n k q : ℕ} (t u : Tables) → Alike n k q t u → (x : Column) (c m : ℕ) → c < contract_count → m < n → row x t c m ≡ row x u c m
row_same t u a column.lots = a.lots.places
row_same t u a column.value = a.value.places

pub same_of : {n k q : ℕ} (t u : Tables) → Alike n k q t u → Long t → Long u → SameButSurplus t u
same_of t u a l l' = record {
  short = not_short t l ∙ sym (not_short u l');
  head = λ i p. a.head.places i (subst₂ (λ n k. InUse n k i) a.head.size a.head.count p);
  prices = a.prices.places;
  rows = λ x c m h g. row_same t u a x c m h (omega (arith, a.head.size));
  book = λ i j h g. a.book i j (omega (arith, a.head.orders)) g;
}

-- ---- what records are made of
module _ {n k q : ℕ} {t u : Tables} (a : Alike n k q t u) where
  pub with_heads : {l l' : List ℕ} → HeadsAlike n k q l l' → Alike n k q (with_head l t) (with_head l' u)
  with_heads h = record { head = h; prices = a.prices; lots = a.lots; value = a.value; book = a.book }

  pub with_prices_lem : {l l' : List ℕ} → PricesAlike l l' → Alike n k q (with_prices l t) (with_prices l' u)
  with_prices_lem p = record { head = a.head; prices = p; lots = a.lots; value = a.value; book = a.book }

  pub with_orders_lem : (os : List Order) → Alike n k (length os) (with_orders os t) (with_orders os u)
  unfolding with_orders over
  with_orders_lem os =
      let xs = flat_map order_places os in
      let wide = flat_length order_width order_places (λ _. refl) os in
      record {
        head = heads_counted a.head (length os);
        prices = a.prices;
        lots = a.lots;
        value = a.value;
        book = λ i j h g. get_or-append xs (drop (0 + length xs) t.book) 0 (i * order_width + j) (omega arith) ∙ sym (get_or-append xs (drop (0 + length xs) u.book) 0 (i * order_width + j) (omega arith));
      }

  -- lines are booked
  pub with_booked : n ≤ most_members → (ls : List Line) → All (Fits n) ls → Alike n k q (booked ls t).after (booked ls u).after
  unfolding booked
  with_booked few ls fit =
      let run : lots_run t ≡ lots_run u = a.head.places lots_run_place (of_ledger (omega arith)) in
      record {
        head = subst (λ v. HeadsAlike n k q (set t.head lots_run_place (lots_run t + line_run ls)) (set u.head lots_run_place (v + line_run ls))) run
            (heads_with a.head lots_run_place (lots_run t + line_run ls) (omega arith) (omega arith) (λ e. omega arith));
        prices = a.prices;
        lots = rows_posted few line_lots ls fit a.lots;
        value = rows_posted few line_value ls fit a.value;
        book = a.book;
      }

  -- the second's counts become zero
  without_submits_lem : n ≤ most_members → HeadsAlike n k q (without_submits t).head (without_submits u).head
  unfolding without_submits
  without_submits_lem few =
      let size' : members u ≡ n = sym (a.head.places members_place (of_ledger (omega arith))) ∙ a.head.size in
      subst₂ (λ x y. HeadsAlike n k q (over submits_from (replicate x 0) t.head) (over submits_from (replicate y 0) u.head)) (sym a.head.size) (sym size') (heads_zeros a.head few)

  pub with_time_lem : n ≤ most_members → (s : ℕ) → Alike n k q (timed s t) (timed s u)
  unfolding timed
  with_time_lem few s =
      let now : time t ≡ time u = a.head.places time_place (of_ledger (omega arith)) in
      let later = with_heads (heads_with (without_submits_lem few) time_place s (omega arith) (omega arith) (λ e. omega arith)) in
      rw now (by_bool (λ b. Alike n k q (cond b (with_head (set (without_submits t).head time_place s) t) t) (cond b (with_head (set (without_submits u).head time_place s) u) u)) (ltb (time u) s) (λ _. later) (λ _. a))

  -- one more accepted submit, of member m
  pub with_counted : n ≤ most_members → (m : ℕ) → m < n → Alike n k q (counted m t) (counted m u)
  unfolding counted
  with_counted few m h =
      let submits : submits_this_second t m ≡ submits_this_second u m = a.head.places (submits_from + m) (of_submits m h refl) in
      let accepted : accepted_submits t ≡ accepted_submits u = a.head.places accepted_submits_place (of_ledger (omega arith)) in
      with_heads (subst₂ (λ x y. HeadsAlike n k q (set (set t.head (submits_from + m) (submits_this_second t m + 1)) accepted_submits_place (accepted_submits t + 1)) (set (set u.head (submits_from + m) (x + 1)) accepted_submits_place (y + 1))) submits accepted
      (heads_with (heads_with a.head (submits_from + m) (submits_this_second t m + 1) (omega arith) (omega arith) (λ e. omega arith)) accepted_submits_place (accepted_submits t + 1) (omega arith) (omega arith) (λ e. omega arith)))

  pub with_mark_lem : n ≤ most_members → (m : ℕ) → m < n → Alike n k q (with_head (with_mark m t.head) t) (with_head (with_mark m u.head) u)
  with_mark_lem few m h = with_heads (heads_with a.head (marks_from + m) default_mark (omega arith) (omega arith) (λ e. omega arith))

  -- a new day
  pub with_day_lem : n ≤ most_members → (d : ℕ) → Alike n k q (on_day d t) (on_day d u)
  unfolding on_day
  with_day_lem few d = with_heads (heads_with (heads_with (without_submits_lem few) day_place d (omega arith) (omega arith) (λ e. omega arith)) time_place 0 (omega arith) (omega arith) (λ e. omega arith))

  -- a contract's deals
  pub with_deals_lem : (c : ℕ) → c < contract_count → (ds : List Deal) → Alike n k q (with_deals c ds t) (with_deals c ds u)
  unfolding with_deals
  with_deals_lem c h ds =
      let m : day_lots t c ≡ day_lots u c = a.prices.places c 3 h (omega arith) in
      let v : day_value t c ≡ day_value u c = a.prices.places c 4 h (omega arith) in
      let more = total (λ d. d.lots) ds in
      let worth = total (λ d. d.lots * d.resting.price.0) ds in
      with_prices_lem (subst₂ (λ x y. PricesAlike (with_dealt c (day_lots t c + more) (day_value t c + worth) t.prices) (with_dealt c (x + more) (y + worth) u.prices)) m v
      (prices_with (prices_with a.prices (day_lots_place c) (day_lots t c + more) (omega arith)) (day_value_place c) (day_value t c + worth) (omega arith)))

  pub with_limits : (c low high : ℕ) → c < contract_count → Alike n k q (with_prices (with_day_limits c low high t.prices) t) (with_prices (with_day_limits c low high u.prices) u)
  with_limits c low high h = with_prices_lem (prices_with (prices_with a.prices (low_place c) low (omega arith)) (high_place c) high (omega arith))
