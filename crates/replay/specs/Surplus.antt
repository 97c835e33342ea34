-- Surplus places, docs/LAYOUT.md: places past the least length of a table; holidays past their count; limits, marks, counts and rows of
-- members past their count; orders past their count.
use Rattle.std.specs.Prelude.{ℕ, ◌+◌, ◌*◌, ◌≤◌, ◌<◌, ◌≡◌, true, get_or, pos}
use Rattle.rules.specs.Ranges.{contract_count, most_members}
use Rattle.rules.specs.Ledger.{Tables, members, holiday_count, order_count, holidays_from, limits_from, marks_from, submits_from, price_width, prices_length, order_width, book_length, line_width, ledger_short}
use Rattle.rules.specs.Answers.{Outcome, reply_of}
use Rattle.rules.specs.Accounts.{Column, row, is_accepted}

-- Place i of the head is in use, with n members and k holidays.
pub data InUse (n k i : ℕ) : Type 0 where
  of_ledger : i < holidays_from → InUse n k i
  of_holiday : (j : ℕ) → j < k → i ≡ holidays_from + j → InUse n k i
  of_limit : (m : ℕ) → m < n → i ≡ limits_from + m → InUse n k i
  of_mark : (m : ℕ) → m < n → i ≡ marks_from + m → InUse n k i
  of_submits : (m : ℕ) → m < n → i ≡ submits_from + m → InUse n k i

-- Two ledgers agree but for surplus: the same at every place that is in use, and both long enough or both too short.
pub record SameButSurplus (t u : Tables) : Type 0 where
  pub short : ledger_short t ≡ ledger_short u
  pub head : (i : ℕ) → InUse (members t) (holiday_count t) i → get_or t.head i 0 ≡ get_or u.head i 0
  pub prices : (c j : ℕ) → c < contract_count → j < price_width → get_or t.prices (c * price_width + j) 0 ≡ get_or u.prices (c * price_width + j) 0
  pub rows : (x : Column) (c m : ℕ) → c < contract_count → m < members t → row x t c m ≡ row x u c m
  pub book : (i j : ℕ) → i < order_count t → j < order_width → get_or t.book (i * order_width + j) 0 ≡ get_or u.book (i * order_width + j) 0

-- With n members and k holidays: surplus of t that is no place for an order holds in u what it held in t.
pub record SurplusUntouched (n k : ℕ) (t u : Tables) : Type 0 where
  pub head : (i : ℕ) → (InUse n k i → ⊥) → get_or u.head i 0 ≡ get_or t.head i 0
  pub prices : (i : ℕ) → prices_length ≤ i → get_or u.prices i 0 ≡ get_or t.prices i 0
  pub rows : (x : Column) (c m : ℕ) → m < most_members → (c < contract_count → n ≤ m) → row x u c m ≡ row x t c m
  pub book : (i : ℕ) → book_length ≤ i → get_or u.book i 0 ≡ get_or t.book i 0

-- Of the line table that a call was lent, the places past its lines hold what they held.
abbrev pub LinesUntouched : Tables → Outcome Tables → Type 0
LinesUntouched t o =
    (i : ℕ) → (is_accepted o.answer ≡ true → (reply_of o.answer).detail * line_width ≤ i) → get_or o.after.lines i (pos 0) ≡ get_or t.lines i (pos 0)

-- Of the book, the places past the orders that a call leaves hold what they held.
abbrev pub BookUntouched : Tables → Outcome Tables → Type 0
BookUntouched t o = (i : ℕ) → order_count o.after * order_width ≤ i → get_or o.after.book i 0 ≡ get_or t.book i 0
