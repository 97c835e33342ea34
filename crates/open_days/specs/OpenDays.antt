-- The open contracts' delivery days.
use Rattle.std.specs.Prelude.{ℕ, ◌≤◌, cond, List, map, get_or}
use Rattle.arith.specs.Lists.{from}
use Rattle.rules.specs.Ranges.{term_count, months_in_span}
use Rattle.rules.specs.Days.{Calendar}
use Rattle.rules.specs.ContractTerms.{days_of, open_on}

-- The delivery days of each contract that is open on a day, 0 for the others that have a term.
unfoldable pub open_days : Calendar → ℕ → List ℕ
open_days k d = map (λ c. cond (open_on k d c) (days_of k c) 0) (from 0 term_count)

-- No month starts earlier than one before it.
abbrev pub NoneEarlier : List ℕ → Type 0
NoneEarlier starts = (i j : ℕ) → i ≤ j → j ≤ months_in_span → get_or starts i 0 ≤ get_or starts j 0
