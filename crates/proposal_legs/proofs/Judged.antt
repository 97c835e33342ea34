-- What the two tests say of legs. Assumes nothing.
use Prim.Native.Nat.{ℕ, ◌<◌}
use mathlib.Core.Path.{◌≡◌, refl}
use mathlib.Core.Bool.{Bool, true, false}
use mathlib.Core.List.{List}
use native.Mathlib.Omega.{arith}
use lib.ListN.{length, take}
use lib.Seq.{take_all}
use Rattle.rules.specs.declared.event.Event.TheVariants.{Proposal}
use Rattle.rules.specs.declared.event.Leg.{Leg}
use Rattle.rules.specs.Ledger.{Tables, members}
use Rattle.rules.specs.Ranges.{most_legs}
use Rattle.rules.specs.Records.{event_sound}
use Rattle.rules.specs.Synthetic.{acceptable}
use Rattle.codec.proofs.PlacedLegs.{many_legs}
use Rattle.proposal_legs.specs.Proposals.{legs_acceptable}

-- All legs of a slice are its first ones.
pub all_sound : (n : ℕ) (legs : List Leg) {r : Bool} → r ≡ event_sound n (Proposal (length legs)) (take (length legs) legs) → r ≡ event_sound n (Proposal (length legs)) legs
all_sound n legs e = rw (take_all (length legs) legs (omega arith)) at e

pub unsound : (t : Tables) (n : ℕ) (legs : List Leg) → event_sound (members t) (Proposal n) legs ≡ false → false ≡ legs_acceptable t n legs
unfolding legs_acceptable
unsound t n legs e = rw e refl

pub judged : (t : Tables) (n : ℕ) (legs : List Leg) {r : Bool} → event_sound (members t) (Proposal n) legs ≡ true → r ≡ acceptable t legs → r ≡ legs_acceptable t n legs
unfolding legs_acceptable
judged t n legs sound e = rw sound e

pub too_many : (t : Tables) (n : ℕ) (legs : List Leg) → most_legs < n → false ≡ legs_acceptable t n legs
too_many t n legs h = unsound t n legs (many_legs (members t) n legs h)
