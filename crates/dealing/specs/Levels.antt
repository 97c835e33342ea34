-- Levels: what members have received after whole rounds, and the bounds of a close-out.
use Rattle.std.specs.Prelude.{ℕ, ◌+◌, ◌*◌, ◌≤◌, ◌<◌, min, List, map, length, get_or}
use Rattle.rules.specs.Default.{sum_of}
use Rattle.rules.specs.Ranges.{contract_count, most_members, most_lots_run}

-- Every member at its minimum or at r lots, whichever is less.
unfoldable pub at_level : ℕ → List ℕ → List ℕ
at_level r mins = map (min r) mins

-- The highest level that the lots suffice for.
pub record Highest (lots : ℕ) (mins : List ℕ) (r : ℕ) : Type 0 where
  pub within : r ≤ lots
  pub enough : sum_of (at_level r mins) ≤ lots
  pub short : r < lots → lots < sum_of (at_level (r + 1) mins)

-- A contract delivers on at most 372 days, twelve months of 31; a weight is a sum of days times lots over all contracts at most.
abbrev pub most_days : ℕ
most_days = 372

abbrev pub most_weight : ℕ
most_weight = contract_count * (most_days * most_lots_run)

-- One number for each member, none above a bound.
pub record MemberColumn (most : ℕ) (ns : List ℕ) : Type 0 where
  pub few : length ns ≤ most_members
  pub each : (i : ℕ) → get_or ns i 0 ≤ most
