-- A refused record changes nothing, and may be struck out of a list.
use Rattle.std.specs.Prelude.{ℕ, ◌≡◌, false, cond, List, [], ◌∷◌}
use Rattle.rules.specs.Answers.{Outcome}
use Rattle.rules.specs.Ledger.{Tables}
use Rattle.rules.specs.Refusals.{apply_spec, make_spec}
use Rattle.rules.specs.Accounts.{Call, call_spec, after, is_accepted, log}

-- An outcome of a call on tables t: where it is refused, they are as they were.
abbrev pub LeavesIfRefused : Tables → Outcome Tables → Type 0
LeavesIfRefused t o = is_accepted o.answer ≡ false → o.after ≡ t

abbrev pub RefusedChangesNothing : Type 0
RefusedChangesNothing = (t : Tables) (bytes : List ℕ) → LeavesIfRefused t (apply_spec t bytes)

-- After 1 or 2 no ledger is made.
abbrev pub RefusedMakesNothing : Type 0
RefusedMakesNothing = (t : Tables) (bytes : List ℕ) → LeavesIfRefused t (make_spec t bytes)

-- The calls of a list that are accepted, from tables t on.
unfoldable pub accepted_calls : Tables → List Call → List Call
accepted_calls t [] = []
accepted_calls t (call ∷ calls) =
    let o = call_spec t call in
    let rest = accepted_calls o.after calls in
    cond (is_accepted o.answer) (call ∷ rest) rest

-- The same ledger: every table but the line table, which is each call's own.
pub record SameLedger (t u : Tables) : Type 0 where
  pub head : t.head ≡ u.head
  pub prices : t.prices ≡ u.prices
  pub lots : t.lots ≡ u.lots
  pub value : t.value ≡ u.value
  pub book : t.book ≡ u.book

-- Without its refused calls a list leads to the same ledger and the same log.
abbrev pub StrikingChangesNothing : Type 0
StrikingChangesNothing =
    (t : Tables) (calls : List Call)
    → SameLedger (after t calls) (after t (accepted_calls t calls)) × (log t calls ≡ log t (accepted_calls t calls))
