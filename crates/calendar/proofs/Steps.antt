-- One step of each walk over days, as the code takes it. Assumes nothing.
use Prim.Native.Nat.{ℕ, zero, suc, ◌+◌, ◌-◌, ◌≤◌, ◌<◌}
use mathlib.Core.Path.{◌≡◌}
use mathlib.Core.Bool.{true, false}
use native.Mathlib.Omega.{arith}
use native.Mathlib.Numerals.{add-one}
use borrow.Author.Tests.{le-leb, lt-leb}
use Rattle.std.specs.Prelude.{Some, None}
use Rattle.rules.specs.Days.{Calendar, business_day, day_after_span, first_business_day, next_business_day, business_day_before}
use Rattle.arith.proofs.Scans.{less_one}

module _ (k : Calendar) where
  -- ---- backwards
  pub back_end : (n x : ℕ) → x ≤ 0 → business_day_before k n x ≡ None
  unfolding business_day_before
  back_end n x l = let e : x ≡ zero = omega arith in rw e

  pub back_last : (n x : ℕ) → 0 < x → business_day k (x - 1) ≡ true → n ≤ 1 → business_day_before k n x ≡ Some (record { 0 = x - 1 })
  unfolding business_day_before
  back_last n zero p b l = absurd (omega arith)
  back_last n (suc x) p b l = let e : suc x - 1 ≡ x = omega arith in let b' = rw e at b in rw (e, b', le-leb _ _ l)

  pub back_more : (n x : ℕ) → 0 < x → business_day k (x - 1) ≡ true → 1 < n → business_day_before k n x ≡ business_day_before k (n - 1) (x - 1)
  unfolding business_day_before
  back_more n zero p b l = absurd (omega arith)
  back_more n (suc x) p b l = let e : suc x - 1 ≡ x = omega arith in let b' = rw e at b in rw (e, b', lt-leb _ _ l)

  pub back_idle : (n x : ℕ) → 0 < x → business_day k (x - 1) ≡ false → business_day_before k n x ≡ business_day_before k n (x - 1)
  unfolding business_day_before
  back_idle n zero p b = absurd (omega arith)
  back_idle n (suc x) p b = let e : suc x - 1 ≡ x = omega arith in let b' = rw e at b in rw (e, b')

  pub next_end : (z x : ℕ) → z ≤ x → first_business_day k (z - x) x ≡ None
  unfolding first_business_day
  next_end z x l = let e : z - x ≡ zero = omega arith in rw e

  pub next_here : (z x : ℕ) → x < z → business_day k x ≡ true → first_business_day k (z - x) x ≡ Some (record { 0 = x })
  unfolding first_business_day
  next_here z x l b = rw (less_one z x l, b)

  pub next_more : (z x : ℕ) → x < z → business_day k x ≡ false → first_business_day k (z - (x + 1)) (x + 1) ≡ first_business_day k (z - x) x
  unfolding first_business_day
  next_more z x l b = rw (less_one z x l, b, add-one x)

  pub next_past : (d : ℕ) → day_after_span k ≤ d → next_business_day k d ≡ None
  unfolding next_business_day
  next_past d l = next_end (day_after_span k) (suc d) (omega arith)

  pub next_start : (d : ℕ) → first_business_day k (day_after_span k - (d + 1)) (d + 1) ≡ next_business_day k d
  unfolding next_business_day
  next_start d = rw (add-one d)
