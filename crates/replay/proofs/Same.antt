-- What is read of two ledgers that agree but for surplus is the same. Assumes nothing.
use Prim.Native.Nat.{ℕ, zero, suc, ◌+◌, ◌*◌, ◌≤◌, ◌<◌}
use mathlib.Core.Path.{◌≡◌, refl, sym, ap, ◌∙◌}
use mathlib.Core.List.{◌∷◌, map}
use native.Mathlib.Omega.{arith}
use native.Mathlib.Nat.{add-zero}
use lib.Dec.{eqb}
use lib.ListN.{length, get_or, take, drop, length-take, length-drop}
use lib.Seq.{get_or-take, get_or-drop, ext_get_or}
use Rattle.arith.specs.Lists.{from}
use Rattle.rules.specs.Sides.{side_of}
use Rattle.rules.specs.Ranges.{contract_count, most_holidays}
use Rattle.rules.specs.Ledger.{Tables, head_length, first_year_place, members_place, holiday_count_place, day_place, time_place, accepted_submits_place, lots_run_place, order_count_place, holidays_from, limits_from, marks_from, submits_from}
use Rattle.rules.specs.Ledger.{first_year, members, holiday_count, day, time, accepted_submits, lots_run, order_count, holidays, limit, mark, submits_this_second, calendar, defaulted, is_open, default_mark}
use Rattle.rules.specs.Ledger.{price_width, ggf, low, high, lots_at, order_width, order_at, side_at, orders}
use Rattle.rules.specs.Accounts.{lots}
use Rattle.replay.specs.Surplus.{of_ledger, of_holiday, of_limit, of_mark, of_submits, SameButSurplus}

-- what a map over numbers that follow each other takes of its function
pub map_from_same : {A : Type 0} (f g : ℕ → A) (a n : ℕ) → ((i : ℕ) → a ≤ i → i < a + n → f i ≡ g i) → map f (from a n) ≡ map g (from a n)
unfolding from
map_from_same f g a zero e = refl
map_from_same f g a (suc n) e = λ s. e a (omega arith) (omega arith) s ∷ map_from_same f g (suc a) n (λ i h k. e i (omega arith) (omega arith)) s

module _ (t u : Tables) (s : SameButSurplus t u) where
  at : (i : ℕ) → i < holidays_from → get_or t.head i 0 ≡ get_or u.head i 0
  at i h = s.head i (of_ledger h)

  pub same_year : first_year t ≡ first_year u
  same_year = at first_year_place (omega arith)

  pub same_members : members t ≡ members u
  same_members = at members_place (omega arith)

  pub same_count : holiday_count t ≡ holiday_count u
  same_count = at holiday_count_place (omega arith)

  pub same_day : day t ≡ day u
  same_day = at day_place (omega arith)

  pub same_time : time t ≡ time u
  same_time = at time_place (omega arith)

  pub same_accepted : accepted_submits t ≡ accepted_submits u
  same_accepted = at accepted_submits_place (omega arith)

  pub same_run : lots_run t ≡ lots_run u
  same_run = at lots_run_place (omega arith)

  pub same_order_count : order_count t ≡ order_count u
  same_order_count = at order_count_place (omega arith)

  -- a member's own
  module _ (m : ℕ) (h : m < members t) where
    pub same_limit : limit t m ≡ limit u m
    same_limit = s.head (limits_from + m) (of_limit m h refl)

    pub same_mark : mark t m ≡ mark u m
    same_mark = s.head (marks_from + m) (of_mark m h refl)

    pub same_defaulted : defaulted t m ≡ defaulted u m
    same_defaulted = ap (λ x. eqb x default_mark) same_mark

    pub same_submits : submits_this_second t m ≡ submits_this_second u m
    same_submits = s.head (submits_from + m) (of_submits m h refl)

    pub same_lots : (c : ℕ) → c < contract_count → lots_at t c m ≡ lots_at u c m
    same_lots c k = s.rows lots c m k h

  -- a contract's own
  module _ (c : ℕ) (h : c < contract_count) where
    pub same_ggf : ggf t c ≡ ggf u c
    same_ggf = rw (add-zero (c * price_width)) at (s.prices c 0 h (omega arith))

    pub same_low : low t c ≡ low u c
    same_low = s.prices c 1 h (omega arith)

    pub same_high : high t c ≡ high u c
    same_high = s.prices c 2 h (omega arith)

  -- the orders
  same_order : (i : ℕ) → i < order_count t → order_at t.book i ≡ order_at u.book i
  same_order i h = λ r. record {
    number = (rw (add-zero (i * order_width)) at (s.book i 0 h (omega arith))) r;
    member = s.book i 1 h (omega arith) r;
    contract = s.book i 2 h (omega arith) r;
    side = side_of (s.book i 3 h (omega arith) r);
    price = record { 0 = s.book i 4 h (omega arith) r };
    lots = record { 0 = s.book i 5 h (omega arith) r };
    day = record { 0 = s.book i 6 h (omega arith) r };
    time = s.book i 7 h (omega arith) r;
  }

  pub same_side_lem : (i : ℕ) → i < order_count t → side_at t.book i ≡ side_at u.book i
  same_side_lem i h = s.book i 3 h (omega arith)

  pub same_orders : orders t ≡ orders u
  unfolding orders
  same_orders = map_from_same (order_at t.book) (order_at u.book) 0 (order_count t) (λ i _ h. same_order i (omega arith)) ∙ ap (λ n. map (order_at u.book) (from 0 n)) same_order_count

  -- the calendar, where the holidays are no more than there is room for
  module _ (few : holiday_count t ≤ most_holidays) (long : head_length ≤ length t.head) (long' : head_length ≤ length u.head) where
    same_holidays : holidays t ≡ holidays u
    same_holidays =
        let n = holiday_count t in
        let l = t.head in
        let l' = u.head in
        ext_get_or 0 (take n (drop holidays_from l)) (take n (drop holidays_from l')) (simp (length-take, length-drop) (omega arith))
        (λ i h. let m : i < n = omega (arith, simp (length-take, length-drop) at h) in
        get_or-take n (drop holidays_from l) i 0 m ∙ get_or-drop holidays_from l i 0 ∙ s.head (holidays_from + i) (of_holiday i m refl) ∙ sym (get_or-drop holidays_from l' i 0) ∙ sym (get_or-take n (drop holidays_from l') i 0 m))
        ∙ ap (λ k. take k (drop holidays_from l')) same_count

    pub same_calendar : calendar t ≡ calendar u
    same_calendar = λ r. record { first_year = same_year r; holidays = same_holidays r }

    pub same_open : (c : ℕ) → is_open t c ≡ is_open u c
    unfolding is_open
    same_open c = rw (same_calendar, same_day)
