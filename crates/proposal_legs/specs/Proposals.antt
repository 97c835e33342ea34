-- Legs as those of a proposal.
use Rattle.std.specs.Prelude.{ℕ, Bool, ◌&&◌, List}
use Rattle.rules.specs.declared.event.Event.TheVariants.{Proposal}
use Rattle.rules.specs.declared.event.Leg.{Leg}
use Rattle.rules.specs.Ledger.{Tables, members}
use Rattle.rules.specs.Records.{event_sound}
use Rattle.rules.specs.Synthetic.{acceptable}

-- The legs are n legs of a sound proposal, 2 to 12 and each in its ranges, and the proposal is acceptable.
unfoldable pub legs_acceptable : Tables → ℕ → List Leg → Bool
legs_acceptable t n legs = event_sound (members t) (Proposal n) legs && acceptable t legs
