-- Windows within a bound, and the rows of n members column by column. Assumes nothing.
use Rattle.std.proofs.Common.{◌≡◌, ℕ, ◌+◌, ◌-◌, ◌*◌, ◌/◌, ◌^◌, ◌<◌, ◌≤◌, Bool, true, ◌&&◌, leb, List, get_or, take, ℤ, pos, nat_abs, sym, add-one, arith, pow_pos, pow_mono, lt-ltb}
use mathlib.Core.Bool.{and_assoc}
use lib.Count.{count_leading_zeros, leading_length}
use Rattle.arith.specs.Lists.{every}
use Rattle.arith.proofs.Tests.{le_or_lt}
use Rattle.arith.specs.Bits.{in_window}
use Rattle.arith.proofs.Bits.{window_within}
use Rattle.arith.proofs.Rows.{rows_weaker, whole_rows, no_column, next_column}
use Rattle.rules.specs.Ranges.{contract_count}
use Rattle.rules.specs.Ledger.{rows_length}
use Rattle.rules.specs.Refusals.{every_row}
use Rattle.damage.specs.Windows.{every_column}

pub row_none : (p : ℤ → Bool) (l : List ℤ) → every_row p 0 l ≡ true
unfolding every_row
row_none p l = no_column p 32 contract_count l

zero_in : (w : ℕ) → 0 < w → in_window w (pos 0) ≡ true
unfolding in_window
zero_in w h = lt-ltb (0 + w / 2) w (omega arith)

pub row_more : (k n : ℕ) (l : List ℤ) → every_row (in_window (2 ^ k)) (n + 1) l ≡ every_row (in_window (2 ^ k)) n l && every_column (in_window (2 ^ k)) n l
unfolding every_row every_column
row_more k n l = rw (add-one n) (next_column (in_window (2 ^ k)) (pos 0) (zero_in (2 ^ k) (pow_pos k)) n 32 contract_count l)

pub row_two_more : (k n : ℕ) (l : List ℤ) → every_row (in_window (2 ^ k)) (n + 2) l ≡ every_row (in_window (2 ^ k)) n l && (every_column (in_window (2 ^ k)) n l && every_column (in_window (2 ^ k)) (n + 1) l)
row_two_more k n l =
    let p = in_window (2 ^ k) in
    let two : n + 2 ≡ n + 1 + 1 = omega arith in
    rw (two, row_more k (n + 1) l, row_more k n l) (and_assoc (every_row p n l) (every_column p n l) (every_column p (n + 1) l))

pub row_whole : (p : ℤ → Bool) (l : List ℤ) → every p (take rows_length l) ≡ every_row p 32 l
unfolding every_row
row_whole p l = whole_rows p 32 contract_count l

-- What is in a window within the bound is within the bound.
pub row_within : (w b n : ℕ) (l : List ℤ) → w ≤ 2 * b + 1 → every_row (in_window w) n l ≡ true → true ≡ every_row (λ z. leb (nat_abs z) b) n l
unfolding every_row
row_within w b n l h e = sym (rows_weaker (in_window w) (λ z. leb (nat_abs z) b) (λ z. window_within z w b h) 32 n contract_count l e)

-- Both places of a row are in the window.
abbrev pub both_in : ℕ → ℕ → List ℤ → Bool
both_in w member b = in_window w (get_or b member (pos 0)) && in_window w (get_or b (member + 1) (pos 0))

-- ---- the widest window
short : (m b : ℕ) → 2 ^ m ≤ 2 * b + 1 → b ≤ 5000000000000 → m ≤ 62
short m b l h = le_or_lt m 62 (λ k. k) (λ k. let large : 2 ^ 63 ≤ 2 ^ m = pow_mono k in absurd (omega arith))

-- As many digits as the bound has: z of the 64 are zeros above them.
pub digits : (b : ℕ) → b ≤ 5000000000000 → (64 - count_leading_zeros 64 b ≤ 62) × (2 ^ (64 - count_leading_zeros 64 b) ≤ 2 * b + 1)
digits b h =
    let long = leading_length 64 b (omega arith) in
    let same : 64 - count_leading_zeros 64 b ≡ long.0 = omega (arith, long.1) in
    rw same (short long.0 b long.3 h, long.3)
