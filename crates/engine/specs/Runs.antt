-- The promises of `make` and `apply`, and demand 3 for every run whose calls keep them.
use Rattle.std.specs.Prelude.{ℕ, ◌≡◌, List, Result}
use Rattle.rules.specs.Answers.{reply_of}
use Rattle.rules.specs.Ledger.{Tables}
use Rattle.rules.specs.Refusals.{make_spec, apply_spec}
use Rattle.rules.specs.Accounts.{Agrees}
use Rattle.accounts.specs.EveryRun.{AfterEveryRun}
use Rattle.rules.specs.declared.refusal.Refusal.{Refusal}

-- On these tables and this header `make` answered so and left these tables.
abbrev pub Makes : Tables → List ℕ → Result ℕ Refusal → Tables → Type 0
Makes before header answer after = record { answer = answer; after = after } ≡ make_spec before header

-- On these tables and these bytes `apply` answered so and left these tables.
abbrev pub Applies : Tables → List ℕ → Result ℕ Refusal → Tables → Type 0
Applies before bytes answer after = record { answer = answer; after = after } ≡ apply_spec before bytes

-- The two bookkeepers agree, their sums are zero, and nothing is left in a contract that has cascaded.
abbrev pub Demand3Runs : Type 0
Demand3Runs = AfterEveryRun reply_of Makes Applies Agrees
