-- One test that fails makes the ledger unsound, whatever the others say. Assumes nothing.
use Rattle.std.proofs.Common.{◌≡◌, ◌*◌, Bool, true, false, not, ◌||◌, leb, [], ◌∷◌, nat_abs, refl}
use Rattle.arith.specs.Lists.{all_of}
use Rattle.arith.proofs.Tests.{and_false, and_true, or_false}
use Rattle.rules.specs.Header.{first_year_sound}
use Rattle.rules.specs.Ranges.{most_holidays, most_price}
use Rattle.rules.specs.Ledger.{Tables, first_year, holiday_count, members, lots_run, calendar, ledger_short, lines_short}
use Rattle.rules.specs.Refusals.{every_row, head_sound, prices_sound, rows_sound, book_sound, damaged, ledger_unsound, unsound}
use Rattle.calendar.proofs.FirstYears.{year_unsound}

-- ---- one test fails
or_true : (a : Bool) → true ≡ a || true
or_true true = refl
or_true false = refl

second_fails : (h r b : Bool) → not (all_of (h ∷ false ∷ r ∷ b ∷ [])) ≡ true
unfolding all_of
second_fails true r b = refl
second_fails false r b = refl

third_fails : (h p b : Bool) → not (all_of (h ∷ p ∷ false ∷ b ∷ [])) ≡ true
unfolding all_of
third_fails true p b = second_fails p b b
third_fails false p b = refl

module _ (t : Tables) where
  pub ledger_short_lem : ledger_short t ≡ true → true ≡ ledger_unsound t
  unfolding ledger_unsound
  ledger_short_lem e = rw e

  is_damaged : damaged t ≡ true → true ≡ ledger_unsound t
  unfolding ledger_unsound
  is_damaged e = rw e (or_true (ledger_short t))

  pub head_fails : head_sound t ≡ false → true ≡ ledger_unsound t
  unfolding damaged all_of
  head_fails e = is_damaged (rw e)

  pub prices_fail : prices_sound t ≡ false → true ≡ ledger_unsound t
  unfolding damaged
  prices_fail e = is_damaged (rw e (second_fails (head_sound t) (rows_sound t) (book_sound t)))

  rows_fail : rows_sound t ≡ false → true ≡ ledger_unsound t
  unfolding damaged
  rows_fail e = is_damaged (rw e (third_fails (head_sound t) (prices_sound t) (book_sound t)))

  pub lots_fail : every_row (λ z. leb (nat_abs z) (lots_run t)) (members t) t.lots ≡ false → true ≡ ledger_unsound t
  unfolding rows_sound
  lots_fail e = rows_fail (rw e)

  pub value_fails : every_row (λ z. leb (nat_abs z) (most_price * lots_run t)) (members t) t.value ≡ false → true ≡ ledger_unsound t
  unfolding rows_sound
  value_fails e = rows_fail (rw e (and_false (every_row (λ z. leb (nat_abs z) (lots_run t)) (members t) t.lots)))

  -- The others pass: the book decides.
  pub book_decides : ledger_short t ≡ false → head_sound t ≡ true → prices_sound t ≡ true
      → every_row (λ z. leb (nat_abs z) (lots_run t)) (members t) t.lots ≡ true → every_row (λ z. leb (nat_abs z) (most_price * lots_run t)) (members t) t.value ≡ true → not (book_sound t) ≡ ledger_unsound t
  unfolding ledger_unsound damaged rows_sound all_of
  book_decides long head prices lots value = rw (long, head, prices, lots, value, and_true (book_sound t))

  -- ---- with the line table
  pub lines_short_lem : lines_short t ≡ true → true ≡ unsound t
  unfolding unsound
  lines_short_lem e = rw e (or_true (ledger_unsound t))

  pub ledger_decides : lines_short t ≡ false → ledger_unsound t ≡ unsound t
  unfolding unsound
  ledger_decides e = rw (e, or_false (ledger_unsound t))

-- ---- the first year, tested before the rest of the head
unsound_year : (t : Tables) → first_year_sound (first_year t) ≡ false → head_sound t ≡ false
unfolding head_sound all_of
unsound_year t e = rw (year_unsound (calendar t) e) (and_false (leb (holiday_count t) most_holidays))

pub year_fails : (t : Tables) → first_year_sound (first_year t) ≡ false → true ≡ ledger_unsound t
year_fails t e = head_fails t (unsound_year t e)
