-- Totals over the open contracts, and how many days a contract delivers at most. Assumes nothing.
use Prim.Native.Nat.{ℕ, zero, suc, ◌+◌, ◌*◌, ◌-◌, ◌/◌, ◌%◌, ◌≤◌}
use mathlib.Core.Path.{◌≡◌, refl, sym, ap, ◌∙◌}
use mathlib.Core.Bool.{Bool, true, false, cond, ◌||◌}
use mathlib.Core.List.{List, [], ◌∷◌}
use native.Mathlib.Omega.{arith}
use native.Mathlib.Nat.{add-suc, add-zero}
use lib.Dec.{eqb}
use lib.ListN.{take}
use borrow.Author.Tests.{eqb-true}
use Rattle.arith.specs.Lists.{any, kept, total, from}
use Rattle.arith.proofs.Tests.{true_or, never, any_append}
use Rattle.arith.proofs.Totals.{Rising, rising_from, rising_kept, rising_take, listed, total_append, total_plus, total_same, total_listed}
use Rattle.rules.specs.declared.contract.ContractKind.{ContractKind}
use Rattle.rules.specs.declared.contract.ContractKind.TheVariants.{Year, Quarter, Month}
use Rattle.rules.specs.Ranges.{term_count}
use Rattle.rules.specs.Days.{Calendar, month_start, month_length, month_days, leap_year, first_month}
use Rattle.rules.specs.ContractTerms.{open_count, same_kind, has_term, kind_of, term_of, contracts_of, months_in, term_first_day, term_day_after, first_day, day_after, days_of, still_to_close, open_of_kind, open_contracts, open_on}
use Rattle.rules.proofs.CalendarLaws.{month_next, open_listed}

-- ---- listed numbers
listed_kept : (p : ℕ → Bool) (l : List ℕ) (c : ℕ) → listed (kept p l) c ≡ true → p c ≡ true
unfolding any kept
listed_kept p [] c h = never (sym h)
listed_kept p (x ∷ l) c h =
    true_or (p x)
    (λ t. true_or (eqb x c) (λ e. rw (← eqb-true x c e) t) (λ e. listed_kept p l c (rw (t, e) at h)))
    (λ t. listed_kept p l c (rw t at h))

listed_before : (p : ℕ → Bool) (l : List ℕ) (c : ℕ) → listed (kept p l) c ≡ true → listed l c ≡ true
unfolding any kept
listed_before p [] c h = h
listed_before p (x ∷ l) c h =
    true_or (eqb x c) (λ e. rw e)
    (λ e. rw e (true_or (p x) (λ t. listed_before p l c (rw (t, e) at h)) (λ t. listed_before p l c (rw t at h))))

listed_take : (n : ℕ) (l : List ℕ) (c : ℕ) → listed (take n l) c ≡ true → listed l c ≡ true
unfolding any
listed_take zero l c h = never (sym h)
listed_take (suc n) [] c h = h
listed_take (suc n) (x ∷ l) c h = true_or (eqb x c) (λ e. rw e) (λ e. rw e (listed_take n l c (rw e at h)))

-- ---- open contracts
same_twice : (z s t : ContractKind) → same_kind z s ≡ true → same_kind z t ≡ true → same_kind s t ≡ true
same_twice Year Year t h g = g
same_twice Year Quarter t h g = never (sym h)
same_twice Year Month t h g = never (sym h)
same_twice Quarter Year t h g = never (sym h)
same_twice Quarter Quarter t h g = g
same_twice Quarter Month t h g = never (sym h)
same_twice Month Year t h g = never (sym h)
same_twice Month Quarter t h g = never (sym h)
same_twice Month Month t h g = g

-- one of three that exclude each other
one_of : (a b c : Bool) (x : ℕ) → (a ≡ true → b ≡ false) → (a ≡ true → c ≡ false) → (b ≡ true → c ≡ false) → cond a x 0 + (cond b x 0 + cond c x 0) ≡ cond (a || (b || c)) x 0
one_of true b c x f g h = rw (f refl, g refl) (omega arith)
one_of false true c x f g h = rw (h refl) (omega arith)
one_of false false c x f g h = omega arith

module _ (k : Calendar) (d : ℕ) where
  open_kind : (s : ContractKind) (c : ℕ) → listed (open_of_kind k d s) c ≡ true → same_kind (kind_of c) s ≡ true
  unfolding open_of_kind contracts_of
  open_kind s c h =
      let all = contracts_of s in
      let left = kept (λ x. still_to_close k d (term_of x)) all in
      listed_kept (λ x. same_kind (kind_of x) s) (from 0 term_count) c (listed_before (λ x. still_to_close k d (term_of x)) all c (listed_take (open_count s) left c h))

  exclusive : (s t : ContractKind) (c : ℕ) → same_kind s t ≡ false → listed (open_of_kind k d s) c ≡ true → listed (open_of_kind k d t) c ≡ false
  exclusive s t c n h =
      true_or (listed (open_of_kind k d t) c) (λ g. never (sym (same_twice (kind_of c) s t (open_kind s c h) (open_kind t c g)) ∙ n)) (λ g. g)

  open_rising : (s : ContractKind) → Rising term_count 0 (open_of_kind k d s)
  unfolding open_of_kind contracts_of
  open_rising s =
      rising_take (open_count s) (rising_kept (λ x. still_to_close k d (term_of x)) (rising_kept (λ x. same_kind (kind_of x) s) (rising_from 0 term_count term_count (omega arith))))

  kind_total : (f : ℕ → ℕ) (s : ContractKind) → total f (open_of_kind k d s) ≡ total (λ c. cond (listed (open_of_kind k d s) c) (f c) 0) (from 0 term_count)
  kind_total f s = total_listed f term_count 0 term_count (open_of_kind k d s) (omega arith) (open_rising s)

  open_one : (c x : ℕ) → cond (listed (open_of_kind k d Year) c) x 0 + (cond (listed (open_of_kind k d Quarter) c) x 0 + cond (listed (open_of_kind k d Month) c) x 0) ≡ cond (open_on k d c) x 0
  unfolding open_contracts
  open_one c x =
      let either = rw (any_append, any_append) at (open_listed k d c) in
      rw (← either) (one_of _ _ _ x (exclusive Year Quarter c refl) (exclusive Year Month c refl) (exclusive Quarter Month c refl))

  -- A total over the open contracts is one over all that have a term, of which those open count.
  pub open_total : (f : ℕ → ℕ) → total f (open_contracts k d) ≡ total (λ c. cond (open_on k d c) (f c) 0) (from 0 term_count)
  unfolding open_contracts
  open_total f =
      let count : ContractKind → ℕ → ℕ = λ s c. cond (listed (open_of_kind k d s) c) (f c) 0 in
      let all = from 0 term_count in
      rw (total_append, total_append, kind_total f Year, kind_total f Quarter, kind_total f Month)
      (sym (ap (λ n. total (count Year) all + n) (total_plus (count Quarter) (count Month) all))
      ∙ sym (total_plus (count Year) (λ c. count Quarter c + count Month c) all)
      ∙ total_same (λ c. count Year c + (count Quarter c + count Month c)) (λ c. cond (open_on k d c) (f c) 0) 0 term_count (λ c h g. open_one c (f c)))

-- ---- days
most_days_lem : (a b c : Bool) → cond a (cond b 29 28) (cond c 30 31) ≤ 31
most_days_lem true true c = omega arith
most_days_lem true false c = omega arith
most_days_lem false b true = omega arith
most_days_lem false b false = omega arith

month_most : (i : ℕ) → month_length i ≤ 31
unfolding month_length month_days
month_most i = let m = i % 12 in most_days_lem (eqb m 1) (leap_year (2020 + i / 12)) (eqb m 3 || eqb m 5 || eqb m 8 || eqb m 10)

months_most : (i n : ℕ) → month_start (i + n) ≤ month_start i + 31 * n
months_most i zero = rw (add-zero i) (omega arith)
months_most i (suc n) = rw (add-suc i n) (omega (arith, month_next (i + n), month_most (i + n), months_most i n))

months_in_lem : (s : ContractKind) → months_in s ≤ 12
months_in_lem Year = omega arith
months_in_lem Quarter = omega arith
months_in_lem Month = omega arith

period_most : (k : Calendar) (c : ℕ) → day_after k c - first_day k c ≤ 372
unfolding term_first_day term_day_after
period_most k c =
    let n = months_in (kind_of c) in
    let i = first_month k + n * (term_of c).index in
    let e : first_month k + (n * (term_of c).index + n) ≡ i + n = omega arith in
    rw e (omega (arith, months_most i n, months_in_lem (kind_of c)))

-- A contract has at most twelve months of 31 days.
pub days_most : (k : Calendar) (c : ℕ) → days_of k c ≤ 372
unfolding days_of
days_most k c = true_or (has_term c) (λ t. rw t (period_most k c)) (λ t. rw t (omega arith))
