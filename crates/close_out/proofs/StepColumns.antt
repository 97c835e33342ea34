-- The columns of the steps of a close-out. Assumes nothing.
use Prim.Native.Nat.{ℕ, ◌+◌, ◌-◌, ◌≤◌, ◌<◌}
use mathlib.Core.Path.{◌≡◌, refl, sym, ap, ◌∙◌}
use mathlib.Core.List.{List, [], ◌∷◌, map, zip_with}
use native.Mathlib.Omega.{arith}
use native.Mathlib.Nat.{add-zero, zero-add}
use native.Mathlib.Numerals.{add-one}
use lib.IntN.{pos, neg_ℤ, ◌-ℤ◌, +ℤ_idl}
use lib.ListN.{length, get_or, drop, replicate, drop_of_length-le}
use lib.Seq.{drop-cons}
use borrow.Author.Tests.{lt-ltb, le-ltb}
use Rattle.rules.specs.Default.{sum_of, given_up, less, change_lines, dealt_out}
use Rattle.rules.specs.Ledger.{Tables}
use Rattle.rules.proofs.Netting.{given_sum, given_length, given_le}
use Rattle.close_out_weights.proofs.Still.{still_at}
use Rattle.close_out.specs.Booking.{with_each, changes, netting_lines, taker_lines}

-- ---- what remains, in place
less_next : (xs ys : List ℕ) (i : ℕ) → i < length xs → i < length ys → less (drop i xs) (drop i ys) ≡ (get_or xs i 0 - get_or ys i 0) ∷ less (drop (i + 1) xs) (drop (i + 1) ys)
unfolding zip_with
less_next xs ys i h k = rw (add-one, drop-cons xs i 0 h, drop-cons ys i 0 k)

pub less_end : (xs ys : List ℕ) (i : ℕ) → length xs ≤ i → less (drop i xs) (drop i ys) ≡ []
unfolding zip_with
less_end xs ys i h = rw (drop_of_length-le xs h)

-- xs from place i on as it was at first
module _ (xs first : List ℕ) (i : ℕ) (known : drop i xs ≡ drop i first) where
  pub remaining_next : (ys : List ℕ) → i < length first → i < length ys → less (drop i first) (drop i ys) ≡ (get_or xs i 0 - get_or ys i 0) ∷ less (drop (i + 1) first) (drop (i + 1) ys)
  remaining_next ys h k = less_next first ys i h k ∙ ap (λ x. (x - get_or ys i 0) ∷ less (drop (i + 1) first) (drop (i + 1) ys)) (sym (still_at xs first i known))

-- ---- takers
bought : (xs : List ℕ) → map (λ n. pos n) xs ≡ changes xs (replicate (length xs) 0)
unfolding zip_with
bought [] = refl
bought (x ∷ xs) = let e : pos x ≡ pos x -ℤ pos 0 = ap pos (sym (add-zero x)) in rw (bought xs, ← e)

sold : (xs : List ℕ) → map (λ n. neg_ℤ (pos n)) xs ≡ changes (replicate (length xs) 0) xs
unfolding zip_with
sold [] = refl
sold (x ∷ xs) = let e : neg_ℤ (pos x) ≡ pos 0 -ℤ pos x = sym (+ℤ_idl (neg_ℤ (pos x))) in rw (sold xs, ← e)

module _ (c p long l : ℕ) (ws xs zeros : List ℕ) (n : ℕ) (dealt : xs ≡ dealt_out l ws) (none : zeros ≡ replicate n 0) (size : length xs ≡ n) where
  pub takers_buy : 0 < long → change_lines c p 0 (changes xs zeros) ≡ taker_lines c p long l ws
  unfolding taker_lines
  takers_buy h = rw (lt-ltb 0 long h, none, ← size, ← dealt, bought xs)

  pub takers_sell : long ≤ 0 → change_lines c p 0 (changes zeros xs) ≡ taker_lines c p long l ws
  unfolding taker_lines
  takers_sell h = rw (le-ltb 0 long h, none, ← size, ← dealt, sold xs)

-- ---- netting
module _ (c p q : ℕ) (longs shorts gl gs : List ℕ) (el : gl ≡ given_up q longs) (es : gs ≡ given_up q shorts) where
  netting_is : change_lines c p 0 (changes gs gl) ≡ netting_lines c p q longs shorts
  unfolding netting_lines
  netting_is = rw (el, es)

  pub netting_count : (r : ℕ) → r ≡ 0 + length (change_lines c p 0 (changes gs gl)) → r ≡ length (netting_lines c p q longs shorts)
  netting_count r e = e ∙ zero-add _ ∙ ap length netting_is

  pub netting_tables : (t t' : Tables) → t' ≡ with_each 0 (change_lines c p 0 (changes gs gl)) t → t' ≡ with_each 0 (netting_lines c p q longs shorts) t
  netting_tables t t' e = e ∙ ap (λ ls. with_each 0 ls t) netting_is

  pub netting_room : sum_of gs + sum_of gl ≤ q + q
  netting_room = omega (arith, ap sum_of el, ap sum_of es, given_sum q longs, given_sum q shorts)

pub remaining_is : (q : ℕ) (held given remaining : List ℕ) → given ≡ given_up q held → remaining ≡ less held given → remaining ≡ less held (given_up q held)
remaining_is q held given remaining e f = f ∙ ap (less held) e

pub given_fits : (q : ℕ) (held given : List ℕ) → given ≡ given_up q held → (length given ≡ length held) × ((i : ℕ) → get_or given i 0 ≤ get_or held i 0)
given_fits q held given e = (ap length e ∙ given_length q held, λ i. rw e (given_le q held i))
