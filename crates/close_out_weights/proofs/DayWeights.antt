-- Weights by days: a total over all contracts, of which those open have days, is the total over the open contracts. Assumes nothing.
use Prim.Native.Nat.{ℕ, zero, suc, ◌+◌, ◌*◌, ◌≤◌, ◌<◌}
use mathlib.Core.Path.{◌≡◌, refl, sym, ap, ◌∙◌}
use mathlib.Core.Bool.{Bool, true, false, cond}
use mathlib.Core.List.{List, ◌∷◌, map}
use native.Mathlib.Omega.{arith}
use native.Mathlib.Nat.{zero-mul, zero-add, add-zero}
use native.Mathlib.Numerals.{add-one}
use lib.IntN.{ℤ, pos, nat_abs}
use lib.ListN.{length, get_or, replicate, get_or-eq_default}
use lib.Seq.{ext_get_or}
use Rattle.arith.proofs.Blocks.{map_same}
use Rattle.arith.proofs.Columns.{mapped_length, mapped_at}
use Rattle.arith.specs.Lists.{from, total}
use Rattle.arith.proofs.Tests.{le_or_lt}
use Rattle.arith.proofs.Ranges.{total_more}
use Rattle.arith.proofs.Totals.{total_same}
use Rattle.rules.proofs.OpenContracts.{open_total, days_most}
use Rattle.rules.specs.ContractTerms.{days_of, open_on}
use Rattle.rules.specs.Days.{Calendar}
use Rattle.rules.specs.Default.{open_weight}
use Rattle.rules.specs.Ledger.{Tables, calendar, day, members, defaulted, lots_at, row_place}
use Rattle.rules.specs.Ranges.{term_count}
use Rattle.dealing.specs.Levels.{most_days}
use Rattle.open_days.specs.OpenDays.{open_days}
use Rattle.close_out_weights.specs.Columns.{weight_by, days_weights}

pub open_days_length : (k : Calendar) (d : ℕ) → length (open_days k d) ≡ term_count
unfolding open_days
open_days_length k d = mapped_length (λ c. cond (open_on k d c) (days_of k c) 0) 0 term_count

open_days_at : (k : Calendar) (d c : ℕ) → c < term_count → get_or (open_days k d) c 0 ≡ cond (open_on k d c) (days_of k c) 0
unfolding open_days
open_days_at k d c h = mapped_at (λ x. cond (open_on k d x) (days_of k x) 0) 0 0 term_count c h ∙ rw (zero-add c)

past : (k : Calendar) (d c : ℕ) → term_count ≤ c → get_or (open_days k d) c 0 ≡ 0
past k d c h = let long : length (open_days k d) ≤ c = omega (arith, open_days_length k d) in get_or-eq_default (open_days k d) 0 long

none_more : (b : Bool) (x most : ℕ) → x ≤ most → cond b x 0 ≤ most
none_more true x most h = h
none_more false x most h = omega arith

pub open_days_most : (k : Calendar) (d c : ℕ) → get_or (open_days k d) c 0 ≤ most_days
open_days_most k d c =
    le_or_lt term_count c (λ h. rw (past k d c h) (omega arith))
    (λ h. rw (open_days_at k d c h) (none_more (open_on k d c) (days_of k c) most_days (days_most k c)))

cond_times : (b : Bool) (x y : ℕ) → cond b x 0 * y ≡ cond b (x * y) 0
cond_times true x y = refl
cond_times false x y = zero-mul y

pub open_weight_lem : (t : Tables) (m : ℕ) → weight_by term_count (open_days (calendar t) (day t)) t.lots m ≡ open_weight t m
unfolding weight_by open_weight
open_weight_lem t m =
    let k = calendar t in
    let d = day t in
    let size : ℕ → ℕ = λ c. nat_abs (lots_at t c m) in
    total_same (λ c. get_or (open_days k d) c 0 * size c) (λ c. cond (open_on k d c) (days_of k c * size c) 0) 0 term_count
    (λ c h g. ap (λ x. x * size c) (open_days_at k d c g) ∙ cond_times (open_on k d c) (days_of k c) (size c))
    ∙ sym (open_total k d (λ c. days_of k c * size c))

-- ---- a column of numbers by member
mapped_same : (f g : ℕ → ℕ) (a n : ℕ) → ((m : ℕ) → a ≤ m → m < a + n → f m ≡ g m) → map f (from a n) ≡ map g (from a n)
unfolding from
mapped_same f g a zero h = refl
mapped_same f g a (suc n) h = rw (h a (omega arith) (omega arith), mapped_same f g (suc a) n (λ m l u. h m (omega arith) (omega arith)))

read_mapped : (f : ℕ → ℕ) (n m : ℕ) → m < n → get_or (map f (from 0 n)) m 0 ≡ f m
read_mapped f n m h = mapped_at f 0 0 n m h ∙ rw (zero-add m)

-- Nothing is added where the days are none.
pub none_added : (l : List ℕ) (days : ℕ) (size : ℕ → ℕ) → days ≡ 0 → l ≡ map (λ m. get_or l m 0 + days * size m) (from 0 (length l))
none_added l days size z =
    let f : ℕ → ℕ = λ m. get_or l m 0 + days * size m in
    ext_get_or 0 l (map f (from 0 (length l))) (sym (mapped_length f 0 (length l)))
    (λ m h. sym (read_mapped f (length l) m h ∙ rw (z, zero-mul) (add-zero (get_or l m 0))))

-- ---- contract after contract
module _ (days : List ℕ) (lots : List ℤ) (n : ℕ) where
  zeros : (a k : ℕ) → replicate k 0 ≡ map (weight_by 0 days lots) (from a k)
  unfolding weight_by total from
  zeros a zero = refl
  zeros a (suc k) = ap (λ l. 0 ∷ l) (zeros (suc a) k)

  pub sums_start : replicate n 0 ≡ map (weight_by 0 days lots) (from 0 n)
  sums_start = zeros 0 n

  weight_more : (c m : ℕ) → weight_by (c + 1) days lots m ≡ weight_by c days lots m + get_or days c 0 * nat_abs (get_or lots (row_place c m) (pos 0))
  unfolding weight_by
  weight_more c m = rw (add-one c) (total_more (λ x. get_or days x 0 * nat_abs (get_or lots (row_place x m) (pos 0))) 0 c ∙ rw (zero-add c))

  pub sums_next : (c : ℕ) (sums after : List ℕ) → sums ≡ map (weight_by c days lots) (from 0 n)
      → after ≡ map (λ m. get_or sums m 0 + get_or days c 0 * nat_abs (get_or lots (row_place c m) (pos 0))) (from 0 n) → after ≡ map (weight_by (c + 1) days lots) (from 0 n)
  sums_next c sums after e a =
      a ∙ mapped_same (λ m. get_or sums m 0 + get_or days c 0 * nat_abs (get_or lots (row_place c m) (pos 0))) (weight_by (c + 1) days lots) 0 n
      (λ m l u. rw (e, read_mapped (weight_by c days lots) n m (omega arith)) (sym (weight_more c m)))

  -- The sums, of those that pass a test nothing.
  pub sums_read : (marked : ℕ → Bool) (sums : List ℕ) → sums ≡ map (weight_by term_count days lots) (from 0 n)
      → map (λ m. cond (marked m) 0 (get_or sums m 0)) (from 0 n) ≡ map (λ m. cond (marked m) 0 (weight_by term_count days lots m)) (from 0 n)
  sums_read marked sums e =
      mapped_same (λ m. cond (marked m) 0 (get_or sums m 0)) (λ m. cond (marked m) 0 (weight_by term_count days lots m)) 0 n
      (λ m l u. rw (e, read_mapped (weight_by term_count days lots) n m (omega arith)))

pub weights_by_days : (t : Tables) (days : List ℕ) → days ≡ open_days (calendar t) (day t)
    → map (λ m. cond (defaulted t m) 0 (weight_by term_count days t.lots m)) (from 0 (members t)) ≡ days_weights t
unfolding days_weights
weights_by_days t days e =
    map_same (λ m. cond (defaulted t m) 0 (weight_by term_count days t.lots m)) (λ m. cond (defaulted t m) 0 (open_weight t m)) (from 0 (members t))
    (λ m. ap (λ w. cond (defaulted t m) 0 w) (rw e (open_weight_lem t m)))
