-- Columns read from undamaged tables: their lengths and bounds, and the weights they decide. Assumes nothing.
use Prim.Native.Nat.{ℕ, ◌*◌, ◌≤◌, ◌<◌}
use mathlib.Core.Path.{◌≡◌}
use mathlib.Core.Bool.{Bool, true, false, cond}
use mathlib.Core.List.{List, map}
use native.Mathlib.Omega.{arith}
use native.Mathlib.Nat.{zero-add, mul-le-mul}
use lib.IntN.{ℤ, pos, negsuc, nat_abs}
use lib.ListN.{length, get_or, get_or-eq_default}
use borrow.Author.Tests.{le-leb, lt-leb}
use Rattle.arith.proofs.Columns.{mapped_length, mapped_at}
use Rattle.arith.specs.Ints.{up, dn}
use Rattle.arith.specs.Lists.{from}
use Rattle.arith.proofs.Tests.{le_or_lt}
use Rattle.arith.proofs.Totals.{total_most}
use Rattle.rules.specs.declared.event.CloseOutTerms.{CloseOutTerms}
use Rattle.rules.specs.Default.{sum_of, others_lots, lots_remaining, weights, open_weight}
use Rattle.rules.specs.Ledger.{Tables, members, defaulted, lots_at, calendar, day, row_place}
use Rattle.rules.specs.Ranges.{contract_count, term_count, most_members, most_lots_run}
use Rattle.rules.proofs.Netting.{sum_most}
use Rattle.tables.specs.Fit.{RowsFit}
use Rattle.dealing.specs.Levels.{most_days, most_weight, MemberColumn}
use Rattle.close_out_weights.specs.declared.columns.Part.{Part}
use Rattle.close_out_weights.specs.declared.columns.Part.TheVariants.{DefaultedLongs, DefaultedShorts, Others}
use Rattle.close_out_weights.specs.Columns.{lots_in, column_of, weight_by, days_weights}
use Rattle.open_days.specs.OpenDays.{open_days}
use Rattle.close_out_weights.proofs.DayWeights.{open_days_most, open_weight_lem}

up_most : (z : ℤ) → up z ≤ nat_abs z
unfolding up
up_most (pos n) = omega arith
up_most (negsuc n) = omega arith

dn_most : (z : ℤ) → dn z ≤ nat_abs z
unfolding dn
dn_most (pos n) = omega arith
dn_most (negsuc n) = omega arith

part_most : (part : Part) (marked : Bool) (z : ℤ) → lots_in part marked z ≤ nat_abs z
part_most DefaultedLongs true z = up_most z
part_most DefaultedLongs false z = omega arith
part_most DefaultedShorts true z = dn_most z
part_most DefaultedShorts false z = omega arith
part_most Others true z = omega arith
part_most Others false z = omega arith

-- A column with a number of each member.
mapped_most : (f : ℕ → ℕ) (n most : ℕ) → ((m : ℕ) → m < n → f m ≤ most) → (i : ℕ) → get_or (map f (from 0 n)) i 0 ≤ most
mapped_most f n most h i =
    le_or_lt n i
    (λ k. let past : length (map f (from 0 n)) ≤ i = omega (arith, mapped_length f 0 n) in let z : get_or (map f (from 0 n)) i 0 ≡ 0 = get_or-eq_default (map f (from 0 n)) 0 past in omega arith)
    (λ k. rw (mapped_at f 0 0 n i k, zero-add i) (h i k))

-- Sums over the first c contracts.
module _ (days : List ℕ) (lots : List ℤ) (n c : ℕ) (most : (i : ℕ) → get_or days i 0 ≤ most_days) (fit : RowsFit n most_lots_run lots) (l : c ≤ contract_count) where
  weight_most : (m : ℕ) → m < n → weight_by c days lots m ≤ c * (most_days * most_lots_run)
  unfolding weight_by
  weight_most m k =
      total_most (λ x. get_or days x 0 * nat_abs (get_or lots (row_place x m) (pos 0))) (most_days * most_lots_run) 0 c (λ x h g. mul-le-mul (most x) (fit.within x m (omega arith) k))

  pub sums_most : (i : ℕ) → get_or (map (weight_by c days lots) (from 0 n)) i 0 ≤ c * (most_days * most_lots_run)
  sums_most = mapped_most (weight_by c days lots) n (c * (most_days * most_lots_run)) weight_most

module _ (t : Tables) (few : members t ≤ most_members) (fit : RowsFit (members t) most_lots_run t.lots) where
  pub column_length : (part : Part) (c : ℕ) → length (column_of part t c) ≡ members t
  unfolding column_of
  column_length part c = mapped_length (λ m. lots_in part (defaulted t m) (lots_at t c m)) 0 (members t)

  column_most : (part : Part) (c : ℕ) → c < contract_count → (i : ℕ) → get_or (column_of part t c) i 0 ≤ most_lots_run
  unfolding column_of
  column_most part c h =
      mapped_most (λ m. lots_in part (defaulted t m) (lots_at t c m)) (members t) most_lots_run (λ m k. omega (arith, part_most part (defaulted t m) (lots_at t c m), fit.within c m h k))

  pub column_fits : (part : Part) (c : ℕ) → c < contract_count → MemberColumn most_weight (column_of part t c)
  column_fits part c h = record { few = omega (arith, column_length part c); each = λ i. omega (arith, column_most part c h i) }

  pub column_sum : (part : Part) (c : ℕ) → c < contract_count → sum_of (column_of part t c) ≤ most_members * most_lots_run
  column_sum part c h = omega (arith, sum_most (column_of part t c) most_lots_run (column_most part c h), column_length part c)

  day_weight_most : (m : ℕ) → m < members t → open_weight t m ≤ most_weight
  day_weight_most m k =
      rw (← open_weight_lem t m) (omega (arith, weight_most (open_days (calendar t) (day t)) t.lots (members t) term_count (open_days_most (calendar t) (day t)) fit (omega arith) m k))

  or_none : (b : Bool) (x most : ℕ) → x ≤ most → cond b 0 x ≤ most
  or_none true x most h = omega arith
  or_none false x most h = h

  pub days_column : MemberColumn most_weight (days_weights t)
  unfolding days_weights
  days_column =
      let f : ℕ → ℕ = λ m. cond (defaulted t m) 0 (open_weight t m) in
      record { few = omega (arith, mapped_length f 0 (members t)); each = mapped_most f (members t) most_weight (λ m k. or_none (defaulted t m) (open_weight t m) most_weight (day_weight_most m k)) }

-- ---- which weights
module _ (t : Tables) (e : CloseOutTerms) (remaining : ℕ) (known : lots_remaining t e.contract ≡ remaining) where
  abbrev here : List ℕ
  here = column_of Others t e.contract

  pub weights_here : 1000 * remaining < e.ratio * sum_of here → here ≡ weights t e
  unfolding weights others_lots column_of
  weights_here h = rw (known, lt-leb (e.ratio * sum_of here) (1000 * remaining) h)

  pub weights_days : e.ratio * sum_of here ≤ 1000 * remaining → days_weights t ≡ weights t e
  unfolding weights others_lots column_of days_weights
  weights_days h = rw (known, le-leb (e.ratio * sum_of here) (1000 * remaining) h)

pub sum_fits : (ns : List ℕ) → MemberColumn most_weight ns → sum_of ns ≤ most_members * most_weight
sum_fits ns f = omega (arith, sum_most ns most_weight f.each, f.few)
