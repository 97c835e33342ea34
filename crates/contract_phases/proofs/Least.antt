-- Which contracts are still to close, by their first delivery days beside the least one of their kind. Assumes nothing.
use Prim.Native.Nat.{ℕ, zero, suc, ◌+◌, ◌*◌, ◌-◌, ◌≤◌, ◌<◌}
use mathlib.Core.Path.{◌≡◌, sym, ap, ◌∙◌}
use mathlib.Core.Bool.{true, false, cond, ◌&&◌}
use native.Mathlib.Omega.{arith}
use native.Mathlib.Numerals.{add-one}
use lib.Dec.{leb}
use lib.ListN.{get_or}
use borrow.Author.Tests.{le-leb, lt-leb}
use Rattle.arith.specs.Lists.{count}
use Rattle.arith.proofs.Tests.{true_or, le_or_lt}
use Rattle.arith.proofs.Counts.{count_none}
use Rattle.rules.specs.declared.contract.ContractKind.{ContractKind}
use Rattle.rules.specs.declared.contract.ContractKind.TheVariants.{Year, Quarter, Month}
use Rattle.rules.specs.declared.contract.Term.{Term}
use Rattle.rules.specs.Days.{Calendar, day_after_span, business_day, business_day_before}
use Rattle.rules.specs.ContractTerms.{closing_distance, months_in, not_before, term_first_day, term_closing_day, still_to_close}
use Rattle.rules.proofs.CalendarLaws.{between, between_up, closes_by_count, month_le}
use Rattle.months.specs.Spans.{starts_of}
use Rattle.months.proofs.Starts.{start_read}
use Rattle.contracts.specs.InLedger.{InLedger}
use Rattle.contract_phases.specs.Least.{day_after_nth, least_first_day, IsLeast}

-- ---- counting business days from day d on
module _ (k : Calendar) (d : ℕ) where
  pub none_counted : between k d d ≡ 0
  unfolding between
  none_counted = count_none (λ x. leb d x && business_day k x) d (λ i h. rw (lt-leb d i h))

  pub one_more : (x : ℕ) → d ≤ x → between k d (x + 1) ≡ between k d x + cond (business_day k x) 1 0
  unfolding between count
  one_more x l = rw (add-one, le-leb d x l)

  -- While some of n are still to count up to day x, what delivers from x or earlier has closed.
  pub closed_up_to : (n x to-count f : ℕ) → between k d x + to-count ≡ n → 0 < to-count → f ≤ x → not_before (business_day_before k n f) d ≡ false
  closed_up_to n x to-count f e p h = closes_by_count k d n f (omega arith) ∙ lt-leb n _ (omega (arith, between_up k d f x h))

  -- Where x is the last of the n, what delivers later is still to close.
  pub last_counted : (n x f : ℕ) → d ≤ x → between k d x + 1 ≡ n → business_day k x ≡ true → not_before (business_day_before k n f) d ≡ leb (x + 1) f
  last_counted n x f l e b =
      le_or_lt (x + 1) f
      (λ h. closes_by_count k d n f (omega arith) ∙ le-leb n _ (omega (arith, between_up k d (x + 1) f h, rw b at (one_more x l))) ∙ sym (le-leb (x + 1) f h))
      (λ h. closed_up_to n x 1 f e (omega arith) (omega arith) ∙ sym (lt-leb (x + 1) f h))

-- ---- the least first delivery day
module _ (k : Calendar) (none : ℕ) where
  pub none_to_count : (m n x : ℕ) → m ≡ 0 → day_after_nth k none m n x ≡ none
  unfolding day_after_nth
  none_to_count m n x e = rw e

  module _ (end n x : ℕ) (h : x < end) where
    pub idle_day : business_day k x ≡ false → day_after_nth k none (end - x) n x ≡ day_after_nth k none (end - (x + 1)) n (x + 1)
    unfolding day_after_nth
    idle_day b = let e : end - x ≡ suc (end - (x + 1)) = omega arith in rw (e, b)

    pub counted_day : business_day k x ≡ true → 1 < n → day_after_nth k none (end - x) n x ≡ day_after_nth k none (end - (x + 1)) (n - 1) (x + 1)
    unfolding day_after_nth
    counted_day b l = let e : end - x ≡ suc (end - (x + 1)) = omega arith in rw (e, b, lt-leb n 1 l)

    pub nth_day : business_day k x ≡ true → n ≤ 1 → day_after_nth k none (end - x) n x ≡ x + 1
    unfolding day_after_nth
    nth_day b l = let e : end - x ≡ suc (end - (x + 1)) = omega arith in rw (e, b, le-leb n 1 l)

module _ (k : Calendar) (d all end f : ℕ) (h : f ≤ end) where
  -- Of `all` business days from day d on n are still to count from day x on.
  decides : (m n x : ℕ) → end ≤ x + m → d ≤ x → between k d x + n ≡ all → 0 < n → not_before (business_day_before k all f) d ≡ leb (day_after_nth k (end + 1) m n x) f
  unfolding day_after_nth
  decides zero n x l p e g = closed_up_to k d all x n f e g (omega arith) ∙ sym (lt-leb (end + 1) f (omega arith))
  decides (suc m) n x l p e g =
      true_or (business_day k x)
      (λ b. le_or_lt n 1
      (λ s. rw (b, le-leb n 1 s) (last_counted k d all x f p (omega arith) b))
      (λ s. rw (b, lt-leb n 1 s) (decides m (n - 1) (x + 1) (omega arith) (omega arith) (omega (arith, rw b at (one_more k d x p))) (omega arith))))
      (λ b. rw b (decides m n (x + 1) (omega arith) (omega arith) (omega (arith, rw b at (one_more k d x p))) g))

-- The least first day decides which first delivery days are still to close.
pub is_least : (k : Calendar) (d n end least : ℕ) → 0 < n → end ≡ day_after_span k → least ≡ least_first_day k d n end → IsLeast k d n least
is_least k d n end least g e l f h =
    rw l (decides k d n end f (omega arith) (end - d) n d (omega arith) (omega arith) (omega (arith, none_counted k d)) g)

-- ---- one contract
module _ (k : Calendar) (t : Term) (w : InLedger t) where
  pub first_read : get_or (starts_of k) (months_in t.kind * t.index) 0 ≡ term_first_day k t
  unfolding term_first_day
  first_read = start_read k (months_in t.kind * t.index) (omega arith)

  pub in_span_lem : term_first_day k t ≤ day_after_span k
  unfolding term_first_day day_after_span
  in_span_lem = month_le _ _ (omega arith)

  -- A contract is still to close exactly if it first delivers on its kind's least day or later.
  pub to_close_from : (d least : ℕ) → IsLeast k d (closing_distance t.kind) least → still_to_close k d t ≡ leb least (get_or (starts_of k) (months_in t.kind * t.index) 0)
  unfolding still_to_close term_closing_day
  to_close_from d least g = g (term_first_day k t) in_span_lem ∙ ap (leb least) (sym first_read)

pub by_kind : (P : ContractKind → Type 0) → P Year → P Quarter → P Month → (s : ContractKind) → P s
by_kind P y q m Year = y
by_kind P y q m Quarter = q
by_kind P y q m Month = m

pub distance_positive : (s : ContractKind) → 0 < closing_distance s
distance_positive = by_kind (λ s. 0 < closing_distance s) (omega arith) (omega arith) (omega arith)
