-- What a caller that books lines of so many lots may assume of the lent tables.
use Rattle.std.specs.Prelude.{ℕ, ◌+◌, ◌*◌, ◌≤◌, List, ℤ, length}
use Rattle.rules.specs.Ledger.{head_length, lines_length}
use Rattle.rules.specs.Ranges.{most_members, most_price, most_lots_run}
use Rattle.tables.specs.Fit.{RowsFit, members_in, lots_run_in}

pub record Bookable (room : ℕ) (head : List ℕ) (lots value lines : List ℤ) : Type 0 where
  pub long : head_length ≤ length head
  pub most_members_holds : members_in head ≤ most_members
  pub lots_fit : RowsFit (members_in head) (lots_run_in head) lots
  pub value_fit : RowsFit (members_in head) (most_price * lots_run_in head) value
  pub lines_long : lines_length ≤ length lines
  pub most_run : lots_run_in head + room ≤ most_lots_run
