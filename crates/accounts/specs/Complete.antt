-- Matching is complete, and it keeps to priority.
use Rattle.std.specs.Prelude.{ℕ, ◌⊎◌, ◌≡◌, true, false, ◌&&◌, List, Some}
use Rattle.arith.specs.Lists.{All}
use Rattle.rules.specs.declared.event.Event.TheVariants.{Submit}
use Rattle.rules.specs.declared.event.Submission.{Submission}
use Rattle.rules.specs.Answers.{Outcome}
use Rattle.rules.specs.Ledger.{Tables, members, resting}
use Rattle.rules.specs.Matching.{precedes, opposes, meets, incoming, submit_matched}
use Rattle.rules.specs.Records.{read_of}
use Rattle.rules.specs.Refusals.{apply_spec}
use Rattle.rules.specs.Accounts.{is_accepted}

-- The bytes are a submit, and it is accepted.
abbrev pub AcceptedSubmit : Tables → List ℕ → Outcome Tables → Submission → Type 0
AcceptedSubmit t bytes o e = (read_of (members t) bytes ≡ Some (Submit e)) × (is_accepted o.answer ≡ true)

-- After an accepted submit nothing of the order is left, or no resting order that opposes it meets its price.
abbrev pub MatchedInFull : Tables → List ℕ → Outcome Tables → Type 0
MatchedInFull t bytes o =
    (e : Submission) → AcceptedSubmit t bytes o e → ((submit_matched t e).left ≡ 0) ⊎ All (λ r. opposes (incoming t e) r && meets (incoming t e) r ≡ false) (resting o.after)

abbrev pub MatchingIsComplete : Type 0
MatchingIsComplete = (t : Tables) (bytes : List ℕ) → MatchedInFull t bytes (apply_spec t bytes)

-- A deal leaves no better order unmet: of the orders that still rest and oppose, none precedes one that was dealt with.
abbrev pub NonePassedOver : Tables → List ℕ → Outcome Tables → Type 0
NonePassedOver t bytes o =
    (e : Submission)
    → AcceptedSubmit t bytes o e
    → All (λ deal. All (λ r. opposes (incoming t e) r && precedes r deal.resting ≡ false) (resting o.after)) (submit_matched t e).deals

abbrev pub NobodyIsPassedOver : Type 0
NobodyIsPassedOver = (t : Tables) (bytes : List ℕ) → NonePassedOver t bytes (apply_spec t bytes)
