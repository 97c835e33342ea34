-- What code may assume of a submit that was read.
use Rattle.std.specs.Prelude.{ℕ, ◌+◌, ◌≤◌, ◌<◌, ◌≡◌, true, List, length}
use Rattle.rules.specs.declared.event.Submission.{Submission}
use Rattle.rules.specs.Ranges.{contract_count, most_price, most_lots, most_orders, most_lots_run, most_submits_in_second, most_accepted_submits}
use Rattle.rules.specs.Ledger.{Tables, orders, lots_run, accepted_submits, line_run}
use Rattle.rules.specs.Matching.{incoming, submit_matched, submit_lines, submits_at, would_rest}
use Rattle.matching.specs.Crossing.{crossing_in}
use Rattle.tables.specs.Fit.{members_in}

pub record SubmissionFit (head : List ℕ) (e : Submission) : Type 0 where
  pub member_below : e.member < members_in head
  pub contract_below : e.contract < contract_count
  pub most_price_holds : e.price.0 ≤ most_price
  pub least_lots : 1 ≤ e.lots.0
  pub most_lots_holds : e.lots.0 ≤ most_lots

-- What an accepted submit's causes leave: so many lots cross, and there is room for one more submit, for its lots in the
-- lots run and for what rests of it.
pub record Acceptable (t : Tables) (e : Submission) (lots : ℕ) : Type 0 where
  pub crosses : lots ≡ crossing_in (incoming t e) (orders t)
  pub most_submits : submits_at t e.time e.member < most_submits_in_second
  pub most_accepted : accepted_submits t < most_accepted_submits
  pub most_run : lots_run t + line_run (submit_lines t e) ≤ most_lots_run
  pub place : would_rest t e ≡ true → length (submit_matched t e).resting < most_orders
