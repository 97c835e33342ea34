-- What an answer means: the causes of a call in the order of their ranks, and that the answer names the lowest that holds.
use Rattle.std.specs.Prelude.{ℕ, ◌<◌, ◌≡◌, true, false, Option, Some, None, Result, Err}
use mathlib.Core.List.{List, [], ◌∷◌, Memᴰ}
use Rattle.arith.specs.Lists.{All}
use Rattle.rules.specs.declared.refusal.Refusal.TheVariants.{TableUnsound, RecordUnsound}
use Rattle.rules.specs.declared.event.Leg.{Leg}
use Rattle.rules.specs.Answers.{Cause, rank}
use Rattle.rules.specs.Ledger.{Tables, members}
use Rattle.rules.specs.Records.{legs_of, read_of}
use Rattle.rules.specs.Refusals.{unsound, kind_causes, apply_spec}
use Rattle.rules.specs.Accounts.{is_accepted}
use Rattle.rules.specs.declared.event.Event.{Event}
use Rattle.rules.specs.declared.refusal.Refusal.{Refusal}

abbrev pub reading_causes : Tables → Option Event → List Leg → List Cause
reading_causes t (Some e) legs = (false, RecordUnsound) ∷ kind_causes t e legs
reading_causes t None legs = (true, RecordUnsound) ∷ []

-- All causes of a call: 1, then 3, then those of the kind that its bytes say.
abbrev pub call_causes : Tables → List ℕ → List Cause
call_causes t bytes = (unsound t, TableUnsound) ∷ reading_causes t (read_of (members t) bytes) (legs_of bytes)

pub record Exact (causes : List Cause) (a : Result ℕ Refusal) : Type 0 where
  -- a refusal's cause is one of them and holds
  pub holds : (x : Refusal) → a ≡ Err x → Memᴰ (true, x) causes
  -- no cause of a lower rank holds
  pub lowest : All (λ cause. rank (Err cause.1) < rank a → cause.0 ≡ false) causes
  -- where the record is accepted, no cause holds
  pub none_holds : is_accepted a ≡ true → All (λ cause. cause.0 ≡ false) causes

-- For all tables and bytes, the answer is exact.
abbrev pub AnswersExactly : Type 0
AnswersExactly = (t : Tables) (bytes : List ℕ) → Exact (call_causes t bytes) (apply_spec t bytes).answer
