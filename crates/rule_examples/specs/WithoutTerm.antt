-- A contract that has rows but no term: what the rules say of every number from term_count on. Document 01 has no such contract.
use Rattle.std.specs.Prelude.{ℕ, ◌≤◌, ◌≡◌, refl, false, List, [], ℤ}
use Rattle.std.proofs.Common.{le-ltb}
use Rattle.rules.specs.Ranges.{term_count}
use Rattle.rules.specs.Days.{Calendar}
use Rattle.rules.specs.ContractTerms.{has_term, children_of, days_of, holds_day, holds_hour, closes_on, closes_before, open_on, has_cascaded}
use Rattle.rules.specs.CloseOfDay.{cascaded}
use Rattle.rules.proofs.CalendarLaws.{without_term}

module _ (k : Calendar) (c : ℕ) (h : term_count ≤ c) where
  no_term : has_term c ≡ false
  no_term = le-ltb c term_count h

  pub never_open : (d : ℕ) → open_on k d c ≡ false
  never_open d = without_term k d c h

  pub never_closes : (d : ℕ) → (closes_on k c d ≡ false) × (closes_before k c d ≡ false)
  never_closes d = rw no_term (refl, refl)

  pub never_cascades : (d : ℕ) → has_cascaded k d c ≡ false
  unfolding has_cascaded
  never_cascades d = rw no_term

  pub rows_stay : (n : ℕ) (l : List ℤ) → (cascaded n c l ≡ l) × (children_of c ≡ [])
  unfolding cascaded children_of
  rows_stay n l = rw no_term (refl, refl)

  pub holds_no_hour : (hour : ℕ) → holds_hour k c hour ≡ false
  unfolding holds_hour holds_day
  holds_no_hour hour = rw no_term

  pub no_days : days_of k c ≡ 0
  unfolding days_of
  no_days = rw no_term
