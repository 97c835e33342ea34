-- What a list of deal lines has to show: it fits the ledger, and in every hour it sums to nothing.
use mathlib.Core.List.{List, [], ◌∷◌}
use Prim.Native.Nat.{ℕ, ◌<◌}
use lib.Dec.{eqb}
use lib.IntN.{ℤ, pos, ◌+ℤ◌}
use Rattle.arith.specs.Ints.{when}
use Rattle.rules.specs.Ranges.{contract_count}
use Rattle.rules.specs.Days.{Calendar}
use Rattle.rules.specs.ContractTerms.{holds_hour}
use Rattle.rules.specs.Ledger.{Line}

-- a line names a contract that has rows and a member of the n
pub record Fits (n : ℕ) (l : Line) : Type 0 where
  pub contract< : l.contract < contract_count
  pub member< : l.member < n

-- what the lines add up to in an hour, for all members
unfoldable pub hour_total : Calendar → (Line → ℤ) → ℕ → List Line → ℤ
hour_total k amount h [] = pos 0
hour_total k amount h (l ∷ ls) = when (holds_hour k l.contract h) (amount l) +ℤ hour_total k amount h ls

-- what the lines add up to in an hour, for one member
unfoldable pub member_total : Calendar → (Line → ℤ) → ℕ → ℕ → List Line → ℤ
member_total k amount m h [] = pos 0
member_total k amount m h (l ∷ ls) = when (eqb l.member m) (when (holds_hour k l.contract h) (amount l)) +ℤ member_total k amount m h ls

-- what they add to one row
unfoldable pub row_total : (Line → ℤ) → ℕ → ℕ → List Line → ℤ
row_total amount c m [] = pos 0
row_total amount c m (l ∷ ls) = when (eqb l.contract c) (when (eqb l.member m) (amount l)) +ℤ row_total amount c m ls
