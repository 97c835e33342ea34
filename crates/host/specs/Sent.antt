-- An outcome as a host gets it: the paper's number, its detail, and what it lent.
use Rattle.std.specs.Prelude.{ℕ, cond}
use Rattle.rules.specs.Answers.{Outcome, reply_of}
use Rattle.rules.specs.Ledger.{Tables}
use Rattle.rules.specs.Refusals.{unsound}

pub record Sent (S : Type 0) : Type 0 where
  pub number : ℕ
  pub detail : ℕ
  pub after : S

abbrev pub sent : {S : Type 0} → Outcome S → Sent S
sent o = record { number = (reply_of o.answer).number; detail = (reply_of o.answer).detail; after = o.after }

-- 1, the number of a short or damaged table, or 0.
unfoldable pub damage_number : Tables → ℕ
damage_number t = cond (unsound t) 1 0
