-- What a close-out is for: after it no defaulted member has lots in the contract.
use Rattle.std.specs.Prelude.{ℕ, ◌<◌, ◌≡◌, true, List, pos, Some}
use Rattle.rules.specs.declared.event.CloseOutTerms.{CloseOutTerms}
use Rattle.rules.specs.declared.event.Event.TheVariants.{CloseOut}
use Rattle.rules.specs.Answers.{Outcome}
use Rattle.rules.specs.Ledger.{Tables, members, defaulted, lots_at}
use Rattle.rules.specs.Records.{read_of}
use Rattle.rules.specs.Refusals.{apply_spec}
use Rattle.rules.specs.Accounts.{is_accepted}

abbrev pub NoLotsOfDefaulted : Tables → List ℕ → Outcome Tables → Type 0
NoLotsOfDefaulted t bytes o =
    (e : CloseOutTerms)
    → read_of (members t) bytes ≡ Some (CloseOut e)
    → is_accepted o.answer ≡ true
    → let u = o.after in
    (m : ℕ) → m < members u → defaulted u m ≡ true → lots_at u e.contract m ≡ pos 0

abbrev pub DefaultedAreClosedOut : Type 0
DefaultedAreClosedOut = (t : Tables) (bytes : List ℕ) → NoLotsOfDefaulted t bytes (apply_spec t bytes)
