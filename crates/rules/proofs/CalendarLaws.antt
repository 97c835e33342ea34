-- What follows from the definitions of days and contracts, for every calendar. Assumes nothing.
use Prim.Native.Nat.{ℕ, zero, suc, ◌+◌, ◌*◌, ◌-◌, ◌/◌, ◌%◌, ◌≤◌, ◌<◌}
use mathlib.Core.Path.{◌≡◌, refl, sym, ap, ◌∙◌}
use mathlib.Core.Bool.{Bool, true, false, not, cond, ◌&&◌, ◌||◌}
use mathlib.Core.List.{map}
use native.Mathlib.Omega.{arith}
use native.Mathlib.Nat.{mul-le-mul_left, add-zero, zero-add, add-suc, suc-add, mul-suc}
use lib.Dec.{eqb, leb, ltb}
use borrow.Author.Tests.{leb-true, le-leb, lt-leb, lt-ltb, le-ltb, ltb-true, eqb-true, eq-eqb, ne_eqb}
use Rattle.std.specs.Prelude.{Option, Some, None}
use Rattle.arith.specs.Lists.{any, kept, count, from, how_many, total}
use Rattle.arith.proofs.Tests.{never, by_leb, true_or, le_or_lt, same_or, same_ltb, and_left, and_right, and_true, and_false, or_false, any_append}
use Rattle.arith.proofs.Counts.{count_imp, one_most, count_most, count_none, count_up, rank}
use Rattle.arith.proofs.Ranges.{total_more, picked}
use Rattle.rules.specs.declared.contract.ContractKind.{ContractKind}
use Rattle.rules.specs.declared.contract.ContractKind.TheVariants.{Year, Quarter, Month}
use Rattle.rules.specs.declared.contract.Term.{Term}
use Rattle.rules.specs.declared.units.DayNo.{DayNo}
use Rattle.rules.specs.Ranges.{term_count}
use Rattle.rules.specs.Days.{Calendar, leap_year, month_days, year_start, month_length, month_start, business_day, day_after_span, first_business_day, next_business_day, business_day_before}
use Rattle.rules.specs.ContractTerms.{open_count, closing_distance, months_in, same_kind, has_term, term_of, kind_of, contracts_of, children_of, term_first_day, term_day_after, holds_day, holds_hour}
use Rattle.rules.specs.ContractTerms.{term_closing_day, not_before, is_on, is_before, still_to_close, open_of_kind, open_contracts, open_on}
use Rattle.rules.specs.OtherForms.{nth, first_month_of, contract_of, contracts_in, ahead, open_by_count}

-- ---- months
least_days : (a b c : Bool) → 28 ≤ cond a (cond b 29 28) (cond c 30 31)
least_days true true c = omega arith
least_days true false c = omega arith
least_days false b true = omega arith
least_days false b false = omega arith

-- A month has at least 28 days.
pub month_least : (i : ℕ) → 28 ≤ month_length i
unfolding month_length month_days
month_least i = let m = i % 12 in least_days (eqb m 1) (leap_year (2020 + i / 12)) (eqb m 3 || eqb m 5 || eqb m 8 || eqb m 10)

-- A year's days are those of its twelve months.
year_next : (y : ℕ) → year_start (suc y) ≡ year_start y + total (month_days (2020 + y)) (from 0 12)
unfolding year_start total from month_days
year_next y = true_or (leap_year (2020 + y)) (λ t. rw t) (λ t. rw t)

-- Month 0 starts on day 0, and each other month where the one before it ends.
pub month_zero : month_start 0 ≡ 0
unfolding month_start year_start total from
month_zero = refl

pub month_next : (i : ℕ) → month_start (suc i) ≡ month_start i + month_length i
unfolding month_start month_length
month_next i =
    let y = i / 12 in
    let none : total (month_days (2020 + suc y)) (from 0 0) ≡ 0 = unfold total from in refl in
    le_or_lt 11 (i % 12)
    (λ l. let e : suc i / 12 ≡ suc y = omega arith in let f : suc i % 12 ≡ 0 = omega arith in let g : i % 12 ≡ 11 = omega arith in
    rw (e, f, g) (omega (arith, year_next y, total_more (month_days (2020 + y)) 0 11)))
    (λ l. let e : suc i / 12 ≡ y = omega arith in let f : suc i % 12 ≡ suc (i % 12) = omega arith in rw (e, f, total_more, zero-add) (omega arith))

-- A later month starts no earlier.
pub month_le : (i j : ℕ) → i ≤ j → month_start i ≤ month_start j
month_le zero zero h = omega arith
month_le (suc i) zero h = absurd (omega arith)
month_le i (suc j) h = le_or_lt i j (λ l. omega (arith, month_le i j l, month_next j)) (λ l. let e : i ≡ suc j = omega arith in rw e (omega arith))

-- A month that comes after another starts at least 28 days later.
pub month_lt : (i j : ℕ) → i < j → month_start i + 28 ≤ month_start j
month_lt i j h = omega (arith, month_le (suc i) j h, month_next i, month_least i)

-- January 2100 begins on day 29220.
pub last_month_lem : month_start 960 ≡ 29220
unfolding month_start year_start leap_year total from
last_month_lem = refl

-- ---- a day that was looked for
on_day_lem : (x : DayNo) (n : ℕ) → Some (record { 0 = n }) ≡ Some x → n ≡ x.0
on_day_lem x n e = let z : ◌≡◌ {A = DayNo} (record { 0 = n }) x = cc in ap (λ (w : DayNo). w.0) z

no_day : {P : Type 0} {x : DayNo} → None ≡ Some x → P
no_day e = absurd (let z : ◌≡◌ {A = ℕ} 0 1 = cc in omega arith)

-- A day that was looked for is earlier than d exactly if it is not d or later.
pub before_or_not : (d : ℕ) (z : Option DayNo) → is_before z d ≡ not (not_before z d)
before_or_not d (Some x) = by_leb (λ b. ltb x.0 d ≡ not b) d x.0 (λ l. le-ltb _ _ l) (λ l. lt-ltb _ _ l)
before_or_not d None = refl

-- What is on day d is not before it.
pub on_not_before : (d : ℕ) (z : Option DayNo) → is_on z d ≡ true → not_before z d ≡ true
on_not_before d (Some x) e = le-leb d x.0 (omega (arith, eqb-true x.0 d e))
on_not_before d None e = e

-- What is not before a day is not before an earlier one.
not_before_down : (d e : ℕ) (z : Option DayNo) → d ≤ e → not_before z e ≡ true → not_before z d ≡ true
not_before_down d e (Some x) l h = le-leb d x.0 (omega (arith, leb-true e x.0 h))
not_before_down d e None l h = h

-- ---- kinds
distance_pos : (s : ContractKind) → 0 < closing_distance s
distance_pos Year = omega arith
distance_pos Quarter = omega arith
distance_pos Month = omega arith

open_pos : (s : ContractKind) → 0 < open_count s
open_pos Year = omega arith
open_pos Quarter = omega arith
open_pos Month = omega arith

same_kind_lem : (s : ContractKind) → same_kind s s ≡ true
same_kind_lem Year = refl
same_kind_lem Quarter = refl
same_kind_lem Month = refl

-- ---- numbers
-- The term of each kind's numbers.
pub term_year : (c : ℕ) → c % 17 ≡ 0 → term_of c ≡ nth Year (c / 17)
unfolding term_of
term_year c h = rw (eq-eqb _ _ h)

pub term_quarter : (c : ℕ) → 0 < c % 17 → c % 17 ≤ 4 → term_of c ≡ nth Quarter (4 * (c / 17) + (c % 17 - 1))
unfolding term_of
term_quarter c l h = rw (ne_eqb (c % 17) 0 (λ z. omega arith), le-leb _ _ h)

pub term_month : (c : ℕ) → 4 < c % 17 → term_of c ≡ nth Month (12 * (c / 17) + (c % 17 - 5))
unfolding term_of
term_month c h = rw (ne_eqb (c % 17) 0 (λ z. omega arith), lt-leb _ _ h)

-- The four quarters of year c, and the three months of quarter c.
pub quarter_of_lem : (c q : ℕ) → c % 17 ≡ 0 → q < 4 → term_of (c + 1 + q) ≡ nth Quarter (4 * (c / 17) + q)
quarter_of_lem c q h l =
    let y : (c + 1 + q) / 17 ≡ c / 17 = omega arith in
    let r : (c + 1 + q) % 17 ≡ 1 + q = omega arith in
    term_quarter (c + 1 + q) (omega arith) (omega arith) ∙ ap (nth Quarter) (omega arith)

pub month_of_lem : (c m : ℕ) → 0 < c % 17 → c % 17 ≤ 4 → m < 3 → term_of (first_month_of c + m) ≡ nth Month (3 * (4 * (c / 17) + (c % 17 - 1)) + m)
month_of_lem c m h g l =
    let y : (first_month_of c + m) / 17 ≡ c / 17 = omega arith in
    let r : (first_month_of c + m) % 17 ≡ 5 + 3 * (c % 17 - 1) + m = omega arith in
    term_month (first_month_of c + m) (omega arith) ∙ ap (nth Month) (omega arith)

pub contracts_of_lem : (s : ContractKind) → contracts_of s ≡ map (contract_of s) (from 0 (contracts_in s))
unfolding contracts_of kept from term_of
contracts_of_lem Year = refl
contracts_of_lem Quarter = refl
contracts_of_lem Month = refl

-- A contract's number says its term, and its term its number.
pub term_number : (s : ContractKind) (i : ℕ) → term_of (contract_of s i) ≡ nth s i
term_number Year i = term_year (17 * i) (omega arith) ∙ ap (nth Year) (omega arith)
term_number Quarter i = quarter_of_lem (17 * (i / 4)) (i % 4) (omega arith) (omega arith) ∙ ap (nth Quarter) (omega arith)
term_number Month i =
    let c = contract_of Month i in
    let y : c / 17 ≡ i / 12 = omega arith in
    let r : c % 17 ≡ 5 + i % 12 = omega arith in
    term_month c (omega arith) ∙ ap (nth Month) (omega arith)

pub number_term : (c : ℕ) → (contract_of (term_of c).kind (term_of c).index ≡ c) × ((term_of c).index < contracts_in (term_of c).kind → c < term_count) × (c < term_count → (term_of c).index < contracts_in (term_of c).kind)
number_term c =
    same_or (c % 17) 0 (λ z. rw (term_year c z) (omega arith))
    (λ z. le_or_lt (c % 17) 4 (λ l. rw (term_quarter c (omega arith) l) (omega arith)) (λ l. rw (term_month c l) (omega arith)))

-- ---- counting days
-- Two spans of days, one after the other, are one.
one_span : (x y z d : ℕ) → x ≤ y → y ≤ z → cond (leb x d && ltb d y) 1 0 + cond (leb y d && ltb d z) 1 0 ≡ cond (leb x d && ltb d z) 1 0
one_span x y z d p q =
    le_or_lt y d (λ l. rw (le-leb y d l, le-leb x d (omega arith), le-ltb d y l) (omega arith))
    (λ l. rw (lt-leb y d l, lt-ltb d y l, lt-ltb d z (omega arith)) (omega arith))

no_span : (x d : ℕ) → ◌≡◌ {A = ℕ} (cond (leb x d && ltb d x) 1 0) 0
no_span x d = le_or_lt x d (λ l. rw (le-leb x d l, le-ltb d x l)) (λ l. rw (lt-leb x d l))

leb_shift : (n b : ℕ) → 0 < n → leb (n - 1) b ≡ leb n (b + 1)
leb_shift n b p = le_or_lt n (b + 1) (λ l. rw (le-leb n (b + 1) l, le-leb (n - 1) b (omega arith))) (λ l. rw (lt-leb n (b + 1) l, lt-leb (n - 1) b (omega arith)))

-- The business days from day d up to but not including f.
unfoldable pub between : Calendar → ℕ → ℕ → ℕ
between k d f = count (λ x. leb d x && business_day k x) f

module _ (k : Calendar) where
  between_none : (d f : ℕ) → f ≤ d → between k d f ≡ 0
  unfolding between
  between_none d f l = count_none (λ x. leb d x && business_day k x) f (λ i h. rw (lt-leb d i (omega arith)))

  pub between_up : (d f g : ℕ) → f ≤ g → between k d f ≤ between k d g
  unfolding between
  between_up d f g l = count_up (λ x. leb d x && business_day k x) f g l

  between_idle : (d x : ℕ) → business_day k x ≡ false → between k d (suc x) ≡ between k d x
  unfolding between count
  between_idle d x e = rw (e, and_false (leb d x)) (omega arith)

  between_more : (d x : ℕ) → d ≤ x → business_day k x ≡ true → between k d (suc x) ≡ between k d x + 1
  unfolding between count
  between_more d x l e = rw (le-leb d x l, e)

  -- From a day later on there is at most one less.
  pub between_later : (d f : ℕ) → between k d f ≤ between k (suc d) f + 1
  unfolding between count
  between_later d zero = omega arith
  between_later d (suc f) =
      le_or_lt (suc d) f (λ l. rw (le-leb d f (omega arith), le-leb (suc d) f l) (omega (arith, between_later d f)))
      (λ l. omega (arith, between_none d f (omega arith), one_most (leb d f && business_day k f)))

  -- The nth business day before f is day d or later exactly if at least n business days lie from d up to f.
  pub closes_by_count : (d n f : ℕ) → 0 < n → not_before (business_day_before k n f) d ≡ leb n (between k d f)
  unfolding business_day_before
  closes_by_count d n zero p = sym (lt-leb n _ (omega (arith, between_none d zero (omega arith))))
  closes_by_count d n (suc x) p =
      true_or (business_day k x)
      (λ e. rw e
      (le_or_lt n 1
      (λ l. rw (le-leb n 1 l)
      (le_or_lt d x (λ h. rw (le-leb d x h, between_more d x h e) (sym (le-leb n _ (omega arith))))
      (λ h. rw (lt-leb d x h) (sym (lt-leb n _ (omega (arith, between_none d (suc x) h)))))))
      (λ l. rw (lt-leb n 1 l)
      (closes_by_count d (n - 1) x (omega arith)
      ∙ le_or_lt d x (λ h. rw (between_more d x h e) (leb_shift n _ p))
      (λ h. rw (between_none d (suc x) h, between_none d x (omega arith), lt-leb n 0 p, lt-leb (n - 1) 0 (omega arith)))))))
      (λ e. rw (e, between_idle d x e) (closes_by_count d n x p))

  -- The nth business day before f is a business day, and before f.
  pub before_business : (n f : ℕ) (x : DayNo) → business_day_before k n f ≡ Some x → (business_day k x.0 ≡ true) × (x.0 < f)
  unfolding business_day_before
  before_business n zero x = λ e. no_day e
  before_business n (suc y) x =
      true_or (business_day k y)
      (λ b. rw b
      (true_or (leb n 1) (λ t. rw t (λ e. let z = on_day_lem x y e in (rw (← z) b, omega arith))) (λ t. rw t (λ e. let w = before_business (n - 1) y x e in (w.0, omega arith)))))
      (λ b. rw b (λ e. let w = before_business n y x e in (w.0, omega arith)))

  -- ---- the next business day
  -- The first business day of the n from a on.
  first_business : (n a : ℕ) (x : DayNo) → first_business_day k n a ≡ Some x
      → (a ≤ x.0) × (business_day k x.0 ≡ true) × (x.0 < a + n) × ((y : ℕ) → a ≤ y → y < x.0 → business_day k y ≡ false)
  unfolding first_business_day
  first_business zero a x = λ e. no_day e
  first_business (suc n) a x =
      true_or (business_day k a) (λ b. rw b (λ e. let z = on_day_lem x a e in (omega arith, rw (← z) b, omega arith, λ y l h. absurd (omega arith))))
      (λ b. rw b (λ e. let w = first_business n (suc a) x e in
      (omega arith, w.1, omega arith, λ y l h. le_or_lt (suc a) y (λ m. w.3 y m h) (λ m. let z : y ≡ a = omega arith in rw z b))))

  first_none : (n a : ℕ) → first_business_day k n a ≡ None → (y : ℕ) → a ≤ y → y < a + n → business_day k y ≡ false
  unfolding first_business_day
  first_none zero a e y l h = absurd (omega arith)
  first_none (suc n) a e y l h =
      true_or (business_day k a) (λ b. no_day (sym (rw b at e)))
      (λ b. le_or_lt (suc a) y (λ m. first_none n (suc a) (rw b at e) y m (omega arith)) (λ m. let z : y ≡ a = omega arith in rw z b))

  -- It is the first after day d, in the span.
  pub next_business : (d : ℕ) (x : DayNo) → next_business_day k d ≡ Some x
      → (d < x.0) × (business_day k x.0 ≡ true) × (x.0 < day_after_span k) × ((y : ℕ) → d < y → y < x.0 → business_day k y ≡ false)
  unfolding next_business_day
  next_business d x e = let w = first_business (day_after_span k - suc d) (suc d) x e in (w.0, w.1, omega arith, w.3)

  -- Where there is none, no day of the span after d is a business day.
  pub next_none : (d : ℕ) → next_business_day k d ≡ None → (y : ℕ) → d < y → y < day_after_span k → business_day k y ≡ false
  unfolding next_business_day
  next_none d e y l h = first_none (day_after_span k - suc d) (suc d) e y l (omega arith)

  -- ---- closing
  -- A closing day is a business day, before the first delivery day.
  pub closing_business : (t : Term) (x : DayNo) → term_closing_day k t ≡ Some x → (business_day k x.0 ≡ true) × (x.0 < term_first_day k t)
  unfolding term_closing_day
  closing_business t x e = before_business (closing_distance t.kind) (term_first_day k t) x e

  -- A contract is still to close on day d exactly if at least its distance of business days lie from d up to its first delivery day.
  pub to_close_count : (d : ℕ) (t : Term) → still_to_close k d t ≡ leb (closing_distance t.kind) (between k d (term_first_day k t))
  unfolding still_to_close term_closing_day
  to_close_count d t = closes_by_count d (closing_distance t.kind) (term_first_day k t) (distance_pos t.kind)

  to_close_least : (d : ℕ) (t : Term) → still_to_close k d t ≡ true → closing_distance t.kind ≤ between k d (term_first_day k t)
  to_close_least d t c = leb-true (closing_distance t.kind) (between k d (term_first_day k t)) (sym (to_close_count d t) ∙ c)

  to_close_enough : (d : ℕ) (t : Term) → closing_distance t.kind ≤ between k d (term_first_day k t) → still_to_close k d t ≡ true
  to_close_enough d t l = to_close_count d t ∙ le-leb _ _ l

  -- What closes on day d is still to close on it.
  pub closes_today : (d : ℕ) (t : Term) → is_on (term_closing_day k t) d ≡ true → still_to_close k d t ≡ true
  unfolding still_to_close
  closes_today d t e = on_not_before d (term_closing_day k t) e

  -- What is still to close on a day is still to close on each day before.
  pub to_close_down : (d e : ℕ) (t : Term) → d ≤ e → still_to_close k e t ≡ true → still_to_close k d t ≡ true
  unfolding still_to_close
  to_close_down d e t l h = not_before_down d e (term_closing_day k t) l h

  -- What has closed before the next business day closed before this day or on it.
  pub closed_by_next : (d : ℕ) (x : DayNo) (t : Term) → next_business_day k d ≡ Some x → is_before (term_closing_day k t) x.0 ≡ is_before (term_closing_day k t) d || is_on (term_closing_day k t) d
  closed_by_next d x t n = go (term_closing_day k t) refl (next_business d x n).0
    where
      go : (z : Option DayNo) → term_closing_day k t ≡ z → d < x.0 → is_before z x.0 ≡ is_before z d || is_on z d
      go None e h = refl
      go (Some z) e h =
          le_or_lt x.0 z.0 (λ l. rw (le-ltb z.0 x.0 l, le-ltb z.0 d (omega arith), ne_eqb z.0 d (λ q. omega arith)))
          (λ l. rw (lt-ltb z.0 x.0 l)
          (le_or_lt d z.0
          (λ m. same_or z.0 d (λ q. rw (le-ltb z.0 d m, eq-eqb z.0 d q)) (λ q. never (sym (closing_business t z e).0 ∙ (next_business d x n).3 z.0 (omega arith) l)))
          (λ m. rw (lt-ltb z.0 d m))))

  -- Of two contracts, the one that keeps no more distance and delivers no earlier closes no earlier.
  pub closes_no_earlier : (d : ℕ) (s t : Term) → closing_distance t.kind ≤ closing_distance s.kind → term_first_day k s ≤ term_first_day k t → still_to_close k d s ≡ true → still_to_close k d t ≡ true
  closes_no_earlier d s t l f c = to_close_enough d t (omega (arith, to_close_least d s c, between_up d (term_first_day k s) (term_first_day k t) f))

  -- Of two contracts, the one that keeps less distance and delivers no earlier closes later.
  pub closes_later : (d : ℕ) (s t : Term) → closing_distance t.kind < closing_distance s.kind → term_first_day k s ≤ term_first_day k t → still_to_close k d s ≡ true → still_to_close k (suc d) t ≡ true
  closes_later d s t l f c = to_close_enough (suc d) t (omega (arith, to_close_least d s c, between_up (suc d) (term_first_day k s) (term_first_day k t) f, between_later d (term_first_day k s)))

  -- A year's quarters close on a later day than the year.
  pub quarter_later : (d i q : ℕ) → still_to_close k d (nth Year i) ≡ true → still_to_close k (suc d) (nth Quarter (4 * i + q)) ≡ true
  unfolding term_first_day
  quarter_later d i q c = closes_later d (nth Year i) (nth Quarter (4 * i + q)) (omega arith) (month_le _ _ (omega arith)) c

  -- A quarter's months close no earlier than the quarter.
  pub month_no_earlier : (d i m : ℕ) → still_to_close k d (nth Quarter i) ≡ true → still_to_close k d (nth Month (3 * i + m)) ≡ true
  unfolding term_first_day
  month_no_earlier d i m c = closes_no_earlier d (nth Quarter i) (nth Month (3 * i + m)) (omega arith) (month_le _ _ (omega arith)) c

  -- The same by contract numbers.
  pub quarter_later_by_number : (d c e : ℕ) → c % 17 ≡ 0 → c < e → e ≤ c + 4 → still_to_close k d (term_of c) ≡ true → still_to_close k (suc d) (term_of e) ≡ true
  quarter_later_by_number d c e h a b w =
      let z : e ≡ c + 1 + (e - c - 1) = omega arith in
      rw (z, quarter_of_lem c (e - c - 1) h (omega arith)) (quarter_later d (c / 17) (e - c - 1) (rw (term_year c h) at w))

  -- ---- open
  -- Of a kind, what comes later delivers no earlier.
  pub first_le : (s : ContractKind) (i j : ℕ) → i ≤ j → term_first_day k (nth s i) ≤ term_first_day k (nth s j)
  unfolding term_first_day
  first_le s i j l = month_le _ _ (omega (arith, mul-le-mul_left (months_in s) l))

  -- Of a kind, what comes later closes no earlier.
  pub to_close_up : (d : ℕ) (s : ContractKind) (i j : ℕ) → i ≤ j → still_to_close k d (nth s i) ≡ true → still_to_close k d (nth s j) ≡ true
  to_close_up d s i j l c = closes_no_earlier d (nth s i) (nth s j) (omega arith) (first_le s i j l) c

  -- Which contracts of a kind are open, by counting.
  any_open : (d : ℕ) (s : ContractKind) (c : ℕ)
      → any (λ x. eqb x c) (open_of_kind k d s) ≡ ltb (term_of c).index (contracts_in s) && (open_by_count k d (nth s (term_of c).index) && eqb (contract_of s (term_of c).index) c)
  unfolding open_of_kind open_by_count ahead
  any_open d s c =
      let only : (j : ℕ) → eqb (contract_of s j) c ≡ true → j ≡ (term_of c).index = λ j e. ap (λ (t : Term). t.index) (sym (term_number s j) ∙ ap term_of (eqb-true (contract_of s j) c e)) in
      rw (contracts_of_lem s) (picked (contract_of s) (λ x. still_to_close k d (term_of x)) c (term_of c).index only (contracts_in s) (open_count s) ∙ simp term_number)

  -- Which of all numbers are open, by counting.
  open_counted : (d c : ℕ) → open_on k d c ≡ has_term c && open_by_count k d (term_of c)
  unfolding open_on
  open_counted d c =
      let n = number_term c in
      any_open d (kind_of c) c ∙ rw (eq-eqb _ _ n.0, and_true, same_ltb _ _ c term_count n.1 n.2)

  pub open_by_count_lem : (d c : ℕ) → c < term_count → open_on k d c ≡ open_by_count k d (term_of c)
  open_by_count_lem d c h = open_counted d c ∙ rw (lt-ltb c term_count h)

  -- A contract without a term is never open.
  pub without_term : (d c : ℕ) → term_count ≤ c → open_on k d c ≡ false
  without_term d c h = open_counted d c ∙ rw (le-ltb c term_count h)

  pub open_in_ledger : (d c : ℕ) → open_on k d c ≡ true → c < term_count
  open_in_ledger d c h = ltb-true c term_count (and_left (has_term c) (open_by_count k d (term_of c)) (sym (open_counted d c) ∙ h))

  pub open_to_close : (d c : ℕ) → open_on k d c ≡ true → still_to_close k d (term_of c) ≡ true
  unfolding open_by_count
  open_to_close d c h = and_left _ (ltb (ahead k d (kind_of c) (term_of c).index) (open_count (kind_of c))) (and_right (has_term c) _ (sym (open_counted d c) ∙ h))

  -- What has closed is never open again.
  pub closed_for_good : (d e c : ℕ) → d ≤ e → still_to_close k d (term_of c) ≡ false → open_on k e c ≡ false
  closed_for_good d e c l h = true_or (open_on k e c) (λ o. never (sym (to_close_down d e (term_of c) l (open_to_close e c o)) ∙ h)) (λ o. o)

  -- A contract that is open stays open until it closes.
  pub open_stays : (d e c : ℕ) → d ≤ e → open_on k d c ≡ true → still_to_close k e (term_of c) ≡ true → open_on k e c ≡ true
  unfolding open_by_count ahead
  open_stays d e c l o h =
      let t = term_of c in
      let below = ltb-true (ahead k d t.kind t.index) (open_count t.kind)
      (and_right (still_to_close k d t) (ltb (ahead k d t.kind t.index) (open_count t.kind)) (sym (open_by_count_lem d c (open_in_ledger d c o)) ∙ o)) in
      let fewer = count_imp (λ j. still_to_close k e (nth t.kind j)) (λ j. still_to_close k d (nth t.kind j)) t.index (λ j. to_close_down d e (nth t.kind j) l) in
      open_by_count_lem e c (open_in_ledger d c o) ∙ rw h (lt-ltb (ahead k e t.kind t.index) (open_count t.kind) (omega (arith, below, fewer)))

  -- The open contracts are those that are open.
  other_kind : {z : ContractKind} (d : ℕ) (s : ContractKind) (c : ℕ) → (term_of c).kind ≡ z → same_kind z s ≡ false → any (λ x. eqb x c) (open_of_kind k d s) ≡ false
  other_kind d s c h e = any_open d s c ∙ rw (ne_eqb (contract_of s (term_of c).index) c (λ n. never (rw (← h, ← n, term_number, same_kind_lem) at e))) (simp and_false)

  pub open_listed : (d c : ℕ) → any (λ x. eqb x c) (open_contracts k d) ≡ open_on k d c
  unfolding open_contracts open_on
  open_listed d c = rw (any_append, any_append) (go (kind_of c) refl)
    where
      listed : ContractKind → Bool
      listed s = any (λ x. eqb x c) (open_of_kind k d s)

      go : (z : ContractKind) → kind_of c ≡ z → listed Year || (listed Quarter || listed Month) ≡ listed z
      go Year h = rw (other_kind d Quarter c h refl, other_kind d Month c h refl) (or_false (listed Year))
      go Quarter h = rw (other_kind d Year c h refl, other_kind d Month c h refl) (or_false (listed Quarter))
      go Month h = rw (other_kind d Year c h refl, other_kind d Quarter c h refl)

  -- Two closing days decide what is open. What has closed is not open.
  pub open_closed : (d : ℕ) (t : Term) → still_to_close k d t ≡ false → open_by_count k d t ≡ false
  unfolding open_by_count
  open_closed d t c = rw c

  -- What is still to close is open if it is among the first of the ledger's.
  pub open_first : (d : ℕ) (t : Term) → still_to_close k d t ≡ true → t.index < open_count t.kind → open_by_count k d t ≡ true
  unfolding open_by_count ahead
  open_first d t c l =
      let p : ℕ → Bool = λ j. still_to_close k d (nth t.kind j) in
      rw c (lt-ltb (count p t.index) (open_count t.kind) (omega (arith, count_most p t.index)))

  -- What is still to close and not among the first is open exactly if the one that lies its kind's open count before it has closed.
  pub open_rank : (d : ℕ) (t : Term) → still_to_close k d t ≡ true → open_count t.kind ≤ t.index → open_by_count k d t ≡ not (still_to_close k d (nth t.kind (t.index - open_count t.kind)))
  unfolding open_by_count ahead
  open_rank d t c l = rw c (rank (λ j. still_to_close k d (nth t.kind j)) (to_close_up d t.kind) (open_count t.kind) t.index (open_pos t.kind) l)

  -- ---- periods
  -- Of a kind, each begins where the one before it ends.
  pub ends_next : (s : ContractKind) (i : ℕ) → term_day_after k (nth s i) ≡ term_first_day k (nth s (suc i))
  unfolding term_day_after term_first_day
  ends_next s i = rw (mul-suc (months_in s) i)

  -- A year's quarters begin and end with it, and so do a quarter's months.
  pub year_begins : (i : ℕ) → term_first_day k (nth Quarter (4 * i)) ≡ term_first_day k (nth Year i)
  unfolding term_first_day
  year_begins i = ap month_start (omega arith)

  pub year_ends : (i : ℕ) → term_day_after k (nth Quarter (4 * i + 3)) ≡ term_day_after k (nth Year i)
  unfolding term_day_after
  year_ends i = ap month_start (omega arith)

  pub quarter_begins : (i : ℕ) → term_first_day k (nth Month (3 * i)) ≡ term_first_day k (nth Quarter i)
  unfolding term_first_day
  quarter_begins i = ap month_start (omega arith)

  pub quarter_ends : (i : ℕ) → term_day_after k (nth Month (3 * i + 2)) ≡ term_day_after k (nth Quarter i)
  unfolding term_day_after
  quarter_ends i = ap month_start (omega arith)

  -- Of n contracts of a kind that follow each other, one holds a day of their common period, and none any other day.
  one_holds : (s : ContractKind) (d n a j : ℕ) → a + n ≤ term_count → ((i : ℕ) → i < n → term_of (a + i) ≡ nth s (j + i))
      → how_many (λ e. holds_day k e d) (from a n) ≡ cond (leb (term_first_day k (nth s j)) d && ltb d (term_first_day k (nth s (j + n)))) 1 0
  unfolding how_many from holds_day
  one_holds s d zero a j u f = rw (add-zero j) (sym (no_span (term_first_day k (nth s j)) d))
  one_holds s d (suc n) a j u f =
      let here : term_of a ≡ nth s j = rw (add-zero a, add-zero j) at (f 0 (omega arith)) in
      let rest = one_holds s d n (suc a) (suc j) (omega arith) (λ i l. rw (suc-add, suc-add, ← add-suc, ← add-suc) (f (suc i) (omega arith))) in
      rw (rest, lt-ltb a term_count (omega arith), here, ends_next s j, suc-add j n, add-suc j n) (one_span _ _ _ d (first_le s j (suc j) (omega arith)) (first_le s (suc j) (suc (j + n)) (omega arith)))

  children_hold : (s : ContractKind) (t : Term) (d c a j n : ℕ) → c < term_count → a + suc n ≤ term_count → term_of c ≡ t → ((i : ℕ) → i < suc n → term_of (a + i) ≡ nth s (j + i))
      → term_first_day k (nth s j) ≡ term_first_day k t → term_day_after k (nth s (j + n)) ≡ term_day_after k t → how_many (λ e. holds_day k e d) (from a (suc n)) ≡ cond (holds_day k c d) 1 0
  unfolding holds_day
  children_hold s t d c a j n w u e f b z = rw (lt-ltb c term_count w, e, ← b, ← z, ends_next s (j + n), ← add-suc j n) (one_holds s d (suc n) a j u f)

  -- A day of a year is a day of exactly one of its quarters, one of a quarter of exactly one of its months, and no other day is.
  children_of_term : (c d : ℕ) → c < term_count → c % 17 ≤ 4 → how_many (λ e. holds_day k e d) (children_of c) ≡ cond (holds_day k c d) 1 0
  unfolding children_of
  children_of_term c d w h =
      let y = c / 17 in
      let i = 4 * (c / 17) + (c % 17 - 1) in
      same_or (c % 17) 0
      (λ z. rw (lt-ltb c term_count w, le-leb (c % 17) 4 h, eq-eqb (c % 17) 0 z)
      (children_hold Quarter (nth Year y) d c (c + 1) (4 * y) 3 w (omega arith) (term_year c z) (λ q l. quarter_of_lem c q z l) (year_begins y) (year_ends y)))
      (λ z. rw (lt-ltb c term_count w, le-leb (c % 17) 4 h, ne_eqb (c % 17) 0 z)
      (children_hold Month (nth Quarter i) d c (first_month_of c) (3 * i) 2 w (omega arith) (term_quarter c (omega arith) h) (λ m l. month_of_lem c m (omega arith) h l) (quarter_begins i) (quarter_ends i)))

  -- A contract without a term has neither days nor children.
  pub children_partition : (c d : ℕ) → c % 17 ≤ 4 → how_many (λ e. holds_day k e d) (children_of c) ≡ cond (holds_day k c d) 1 0
  unfolding children_of how_many holds_day
  children_partition c d h = le_or_lt term_count c (λ w. rw (le-ltb c term_count w)) (λ w. children_of_term c d w h)

  -- The same by delivery hours.
  pub children_hours : (c h : ℕ) → c % 17 ≤ 4 → how_many (λ e. holds_hour k e h) (children_of c) ≡ cond (holds_hour k c h) 1 0
  unfolding holds_hour
  children_hours c h l = children_partition c (h / 24) l
