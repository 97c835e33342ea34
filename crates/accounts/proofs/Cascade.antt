-- A cascade leaves every engine account as it was: in each hour it moves the rows of one of the three contracts that hold the hour to another.
use mathlib.Core.Path.{◌≡◌, refl, sym, ap, ◌∙◌}
use mathlib.Core.Bool.{Bool, true, false, cond}
use Prim.Native.Nat.{ℕ, ◌+◌, ◌/◌, ◌%◌, ◌≤◌, ◌<◌}
use native.Mathlib.Omega.{arith}
use lib.Dec.{eqb}
use lib.IntN.{ℤ, pos, ◌+ℤ◌}
use borrow.Author.Tests.{eqb-true, ne_eqb}
use Rattle.arith.specs.Lists.{any}
use Rattle.arith.specs.Ints.{when}
use Rattle.arith.proofs.Tests.{le_or_lt}
use Rattle.arith.proofs.Among.{not_among, among_if}
use Rattle.arith.proofs.Sums.{sorted, sum_ext}
use Rattle.arith.proofs.Terms.{sum_three}
use Rattle.rules.specs.Ranges.{contract_count, term_count, contracts_in_year, first_quarter, january, quarters_in_year, months_in_year, months_in_quarter}
use Rattle.rules.specs.Days.{Calendar}
use Rattle.rules.specs.ContractTerms.{children_of}
use Rattle.rules.specs.Accounts.{engine_account, DeliveryHour}
use Rattle.rules.specs.OtherForms.{first_month_of, year_of, quarter_of, month_of, holds_month}
use Rattle.rules.proofs.HourLaws.{InMonth, month_of_hour, holds_hour_lem, Cascading, year, quarter, cascading}

abbrev pub is_child : ℕ → ℕ → Bool
is_child c d = any (λ x. eqb x d) (children_of c)

-- Of three rows the first goes to the second, or the second to the third, or all stay.
one_to_next : (first second : Bool) (x y z w : ℤ) → (first ≡ true → w ≡ x) → (second ≡ true → w ≡ y) → (first ≡ true → second ≡ false)
    → cond first (pos 0) (x +ℤ pos 0) +ℤ (cond second (pos 0) (y +ℤ when first w) +ℤ (z +ℤ when second w)) ≡ x +ℤ (y +ℤ z)
one_to_next true second x y z w e f g = rw (g refl, e refl) (simp sorted)
one_to_next false true x y z w e f g = rw (f refl) (simp sorted)
one_to_next false false x y z w e f g = simp sorted

-- Of the three, the quarter alone is a child of the year, and the month alone one of the quarter.
module _ (c i : ℕ) where
  pub year_no_child : Cascading c → is_child c (year_of i) ≡ false
  year_no_child (year z e) = rw e (not_among (c + first_quarter) quarters_in_year (year_of i) (omega arith))
  year_no_child (quarter z y e) = rw e (not_among (first_month_of c) months_in_quarter (year_of i) (λ h k. le_or_lt (i / months_in_year) (c / contracts_in_year) (omega arith) (omega arith)))

  pub quarter_child : Cascading c → is_child c (quarter_of i) ≡ eqb c (year_of i)
  quarter_child (year z e) = rw e (among_if (c + first_quarter) quarters_in_year (quarter_of i) c (year_of i) (omega arith) (omega arith))
  quarter_child (quarter z y e) = rw e (among_if (first_month_of c) months_in_quarter (quarter_of i) c (year_of i) (λ h k. le_or_lt (i / months_in_year) (c / contracts_in_year) (omega arith) (omega arith)) (omega arith))

  pub month_child : Cascading c → is_child c (month_of i) ≡ eqb c (quarter_of i)
  month_child (year z e) = rw e (among_if (c + first_quarter) quarters_in_year (month_of i) c (quarter_of i) (λ h k. le_or_lt (c / contracts_in_year) (i / months_in_year) (omega arith) (omega arith)) (omega arith))
  month_child (quarter z y e) =
      rw e (among_if (first_month_of c) months_in_quarter (month_of i) c (quarter_of i) (λ h k. let same : c / contracts_in_year ≡ i / months_in_year = omega arith in omega arith) (omega arith))

  -- A contract without a term is no child.
  pub no_term_child : Cascading c → c < term_count → term_count ≤ i → is_child c i ≡ false
  no_term_child (year z e) l u = rw e (not_among (c + 1) 4 i (omega arith))
  no_term_child (quarter z y e) l u = rw e (not_among (first_month_of c) 3 i (omega arith))

  -- So c's row goes from one of them to the next, and their sum stays.
  moved : c < term_count → c % contracts_in_year < january → (r : ℕ → ℤ) → let r' : ℕ → ℤ = λ d. cond (eqb c d) (pos 0) (r d +ℤ when (is_child c d) (r c)) in
      r' (year_of i) +ℤ (r' (quarter_of i) +ℤ r' (month_of i)) ≡ r (year_of i) +ℤ (r (quarter_of i) +ℤ r (month_of i))
  moved w h r =
      let k = cascading c w h in
      rw (year_no_child k, quarter_child k, month_child k, ne_eqb c (month_of i) (omega arith))
      (one_to_next (eqb c (year_of i)) (eqb c (quarter_of i)) (r (year_of i)) (r (quarter_of i)) (r (month_of i)) (r c)
      (λ t. ap r (eqb-true c (year_of i) t)) (λ t. ap r (eqb-true c (quarter_of i) t)) (λ t. ne_eqb c (quarter_of i) (omega (arith, eqb-true c (year_of i) t))))

-- An account is the sum of three rows.
account_three : (k : Calendar) (R : ℕ → ℕ → ℤ) (m h i : ℕ) → InMonth k i h → engine_account k R m h ≡ R (year_of i) m +ℤ (R (quarter_of i) m +ℤ R (month_of i) m)
unfolding engine_account holds_month
account_three k R m h i lies =
    let l = lies.month< in
    sum_ext contract_count _ _ (λ c _. ap (λ b. when b (R c m)) (holds_hour_lem k i h lies c))
    ∙ sum_three contract_count (λ c. R c m) (year_of i) (quarter_of i) (month_of i) (omega arith) (omega arith) (omega arith)

-- R' are the rows after a cascade of the year or quarter c, R those before it.
pub cascade_keeps : (k : Calendar) (R R' : ℕ → ℕ → ℤ) (c m h : ℕ) → c < term_count → c % contracts_in_year < january
    → ((d : ℕ) → d < contract_count → R' d m ≡ cond (eqb c d) (pos 0) (R d m +ℤ when (any (λ x. eqb x d) (children_of c)) (R c m)))
    → DeliveryHour k h → engine_account k R' m h ≡ engine_account k R m h
cascade_keeps k R R' c m h w q after hour =
    let o = month_of_hour k h hour.0 hour.1 in
    let i = o.month in
    let l = o.lies.month< in
    account_three k R' m h i o.lies
    ∙ rw (after (year_of i) (omega arith), after (quarter_of i) (omega arith), after (month_of i) (omega arith)) (moved c i w q (λ d. R d m))
    ∙ sym (account_three k R m h i o.lies)
