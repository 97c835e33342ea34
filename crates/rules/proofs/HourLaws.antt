-- Delivery hours and months, the contracts that hold them, and the children of a contract. Assumes nothing.
use Prim.Native.Nat.{ℕ, zero, suc, ◌+◌, ◌*◌, ◌-◌, ◌/◌, ◌%◌, ◌≤◌, ◌<◌}
use mathlib.Core.Path.{◌≡◌, sym, ◌∙◌}
use mathlib.Core.Bool.{Bool, true, false, ◌&&◌}
use mathlib.Core.List.{List}
use native.Mathlib.Omega.{arith}
use native.Mathlib.Nat.{add-zero}
use lib.Dec.{T, leb, ltb}
use borrow.Author.Tests.{le-leb, lt-ltb, le-ltb, eq-eqb, ne_eqb}
use Rattle.arith.specs.Lists.{from}
use Rattle.arith.proofs.Tests.{le_or_lt, same_or}
use Rattle.arith.proofs.Among.{by_span, every_from, from_every}
use Rattle.rules.specs.Ranges.{term_count, months_in_span}
use Rattle.rules.specs.Days.{Calendar, month_start, first_month, span_start, day_after_span}
use Rattle.rules.specs.ContractTerms.{children_of, term_first_day, term_day_after, first_day, day_after, holds_day, holds_hour}
use Rattle.rules.specs.OtherForms.{first_month_of, year_of, quarter_of, month_of, holds_month}
use Rattle.rules.proofs.CalendarLaws.{month_le, month_lt, term_year, term_quarter, term_month}
use Rattle.rules.specs.Synthetic.{Named, in_hour, balanced_in_hour, balanced}

-- ---- the months of the span, counted from its first
-- The hour lies in month i.
pub record InMonth (k : Calendar) (i h : ℕ) : Type 0 where
  pub month< : i < months_in_span
  pub begun : month_start (first_month k + i) ≤ h / 24
  pub unfinished : h / 24 < month_start (first_month k + suc i)

-- Every delivery hour lies in one of the 72 months.
pub record MonthOfHour (k : Calendar) (h : ℕ) : Type 0 where
  pub month : ℕ
  pub lies : InMonth k month h

pub month_of_hour : (k : Calendar) (h : ℕ) → 24 * span_start k ≤ h → h < 24 * day_after_span k → MonthOfHour k h
unfolding span_start day_after_span
month_of_hour k h from_start to_end = below 72 (omega arith) (omega arith)
  where
    below : (n : ℕ) → n ≤ 72 → h / 24 < month_start (first_month k + n) → MonthOfHour k h
    below zero l u = let e = add-zero (first_month k) in absurd (omega (arith, rw e at u))
    below (suc n) l u =
        le_or_lt (month_start (first_month k + n)) (h / 24) (λ b. record { month = n; lies = record { month< = omega arith; begun = b; unfinished = u } })
        (λ b. below n (omega arith) b)

-- A month's first hour lies in it.
pub first_hour : (k : Calendar) (i : ℕ) → i < months_in_span → InMonth k i (24 * month_start (first_month k + i))
first_hour k i l = record { month< = l; begun = omega arith; unfinished = omega (arith, month_lt (first_month k + i) (first_month k + suc i) (omega arith)) }

module _ (c i : ℕ) where
  holds_year : year_of i ≡ c → holds_month c i ≡ true
  unfolding holds_month
  holds_year e = rw (eq-eqb (year_of i) c e)

  holds_quarter : quarter_of i ≡ c → holds_month c i ≡ true
  unfolding holds_month
  holds_quarter e = rw (ne_eqb (year_of i) c (omega arith), eq-eqb (quarter_of i) c e)

  holds_itself : month_of i ≡ c → holds_month c i ≡ true
  unfolding holds_month
  holds_itself e = rw (ne_eqb (year_of i) c (omega arith), ne_eqb (quarter_of i) c (omega arith), eq-eqb (month_of i) c e)

  holds_not : (year_of i ≡ c → ⊥) → (quarter_of i ≡ c → ⊥) → (month_of i ≡ c → ⊥) → holds_month c i ≡ false
  unfolding holds_month
  holds_not y q m = rw (ne_eqb (year_of i) c y, ne_eqb (quarter_of i) c q, ne_eqb (month_of i) c m)

module _ (k : Calendar) (i h : ℕ) (lies : InMonth k i h) where
  -- A month has begun exactly if it is no later than i.
  begun_le : (j : ℕ) → month_start (first_month k + j) ≤ h / 24 → j ≤ i
  begun_le j b = le_or_lt j i (λ l. l) (λ l. absurd (omega (arith, month_le (first_month k + suc i) (first_month k + j) (omega arith))))

  le_begun : (j : ℕ) → j ≤ i → month_start (first_month k + j) ≤ h / 24
  le_begun j l = omega (arith, month_le (first_month k + j) (first_month k + i) (omega arith))

  -- So the hour lies in the w months from a on exactly if i is one of them.
  in_months : (a w : ℕ) (b : Bool) → (a ≤ i → i < a + w → b ≡ true) → ((a ≤ i → i < a + w → ⊥) → b ≡ false)
      → leb (month_start (first_month k + a)) (h / 24) && ltb (h / 24) (month_start (first_month k + (a + w))) ≡ b
  in_months a w b f g =
      let end = month_start (first_month k + (a + w)) in
      by_span (λ t. t ≡ b) (month_start (first_month k + a)) end (h / 24)
      (λ x y. sym (f (begun_le a x) (le_or_lt (a + w) i (λ l. absurd (omega (arith, le_begun (a + w) l))) (λ l. l))))
      (λ out. sym (g (λ x y. out (le_begun a x) (le_or_lt end (h / 24) (λ l. absurd (omega (arith, begun_le (a + w) l))) (λ l. l)))))

  holds_period : (c : ℕ) → leb (first_day k c) (h / 24) && ltb (h / 24) (day_after k c) ≡ holds_month c i
  unfolding term_first_day term_day_after
  holds_period c =
      same_or (c % 17) 0
      (λ z. rw (term_year c z) (in_months (12 * (c / 17)) 12 (holds_month c i) (λ x y. holds_year c i (omega arith))
      (λ out. holds_not c i (λ e. out (omega arith) (omega arith)) (omega arith) (omega arith))))
      (λ z. le_or_lt (c % 17) 4
      (λ l. rw (term_quarter c (omega arith) l) (in_months (3 * (4 * (c / 17) + (c % 17 - 1))) 3 (holds_month c i) (λ x y. holds_quarter c i (omega arith))
      (λ out. holds_not c i (omega arith) (λ e. out (omega arith) (omega arith)) (omega arith))))
      (λ l. rw (term_month c l) (in_months (1 * (12 * (c / 17) + (c % 17 - 5))) 1 (holds_month c i) (λ x y. holds_itself c i (omega arith))
      (λ out. holds_not c i (omega arith) (omega arith) (λ e. out (omega arith) (omega arith))))))

  -- Exactly three contracts hold the hour.
  pub holds_hour_lem : (c : ℕ) → holds_hour k c h ≡ holds_month c i
  unfolding holds_hour holds_day
  holds_hour_lem c =
      let l = lies.month< in
      le_or_lt term_count c (λ w. rw (le-ltb c term_count w) (sym (holds_not c i (omega arith) (omega arith) (omega arith))))
      (λ w. rw (lt-ltb c term_count w) (holds_period c))

-- Two hours of a month lie in the same contracts.
pub same_month : (k : Calendar) (i h h' : ℕ) → InMonth k i h → InMonth k i h' → (c : ℕ) → holds_hour k c h ≡ holds_hour k c h'
same_month k i h h' l l' c = holds_hour_lem k i h l c ∙ sym (holds_hour_lem k i h' l' c)

-- ---- a proposal that is balanced in the first hour of each month is balanced in every hour
pub balanced_every_hour : (k : Calendar) (ns : List Named) → T (balanced k ns) → (h : ℕ) → 24 * span_start k ≤ h → h < 24 * day_after_span k → T (balanced_in_hour k ns h)
unfolding balanced balanced_in_hour in_hour
balanced_every_hour k ns b h l u =
    let m = month_of_hour k h l u in
    let i = m.month in
    simp (same_month k i h (24 * month_start (first_month k + i)) m.lies (first_hour k i m.lies.month<))
    (every_from (λ i. balanced_in_hour k ns (24 * month_start (first_month k + i))) 0 72 b i (omega arith) (omega (arith, m.lies.month<)))

-- a proposal that is balanced in every hour of the six years is balanced
pub every_hour_balanced : (k : Calendar) (ns : List Named) → ((h : ℕ) → 24 * span_start k ≤ h → h < 24 * day_after_span k → T (balanced_in_hour k ns h)) → T (balanced k ns)
unfolding balanced span_start day_after_span
every_hour_balanced k ns f =
    from_every (λ i. balanced_in_hour k ns (24 * month_start (first_month k + i))) 0 72
    (λ i _ l. f (24 * month_start (first_month k + i)) (omega (arith, month_le (first_month k) (first_month k + i) (omega arith)))
    (omega (arith, month_lt (first_month k + i) (first_month k + 72) (omega arith))))

-- ---- children
-- The contracts that cascade: a year to its four quarters, a quarter to its three months.
pub data Cascading (c : ℕ) : Type 0 where
  year : c % 17 ≡ 0 → children_of c ≡ from (c + 1) 4 → Cascading c
  quarter : 0 < c % 17 → c % 17 < 5 → children_of c ≡ from (first_month_of c) 3 → Cascading c

pub cascading : (c : ℕ) → c < term_count → c % 17 < 5 → Cascading c
unfolding children_of
cascading c w h =
    same_or (c % 17) 0 (λ z. year z (rw (lt-ltb c term_count w, le-leb (c % 17) 4 (omega arith), eq-eqb (c % 17) 0 z)))
    (λ z. quarter (omega arith) h (rw (lt-ltb c term_count w, le-leb (c % 17) 4 (omega arith), ne_eqb (c % 17) 0 z)))
