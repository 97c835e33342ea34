-- What a record that was read gives the code of its kind. Assumes nothing.
use Prim.Native.Nat.{ℕ, ◌+◌, ◌≤◌, ◌<◌}
use mathlib.Core.Path.{◌≡◌, refl, ap, ◌∙◌}
use mathlib.Core.Bool.{◌&&◌}
use mathlib.Core.List.{List}
use native.Mathlib.Omega.{arith}
use lib.Dec.{eqb, leb}
use lib.IntN.{ℤ}
use lib.ListN.{length, take}
use borrow.Author.Tests.{leb-true}
use Rattle.std.specs.Prelude.{Some}
use Rattle.arith.proofs.Tests.{and_left, and_right}
use Rattle.rules.specs.declared.event.CloseOutTerms.{CloseOutTerms}
use Rattle.rules.specs.declared.event.Event.TheVariants.{Submit, DayLimits, Proposal, Default, CloseOut}
use Rattle.rules.specs.declared.event.Leg.{Leg}
use Rattle.rules.specs.declared.event.NewDayLimits.{NewDayLimits}
use Rattle.rules.specs.declared.event.Submission.{Submission}
use Rattle.rules.specs.Ranges.{contract_count, most_ratio, most_lots_run}
use Rattle.rules.specs.Records.{contract_sound, legs_of, event_sound, read_of}
use Rattle.rules.proofs.SoundEvents.{submission, new_day_limits, proposal, default_member, close_out_contract}
use Rattle.codec.specs.Legs.{in_places, held_legs}
use Rattle.codec.proofs.Fields.{said}
use Rattle.codec.proofs.PlacedLegs.{placed, places_length, legs_said}
use Rattle.rules.specs.Ledger.{Tables, lent}
use Rattle.rules.specs.Refusals.{unsound}
use Rattle.tables.specs.Fit.{members_in, lots_run_in, Fits}
use Rattle.submit_causes.specs.Fit.{SubmissionFit}
use Rattle.proposal_check.specs.Legs.{LegsFit}
use Rattle.proposal_check.proofs.SoundLegs.{counted, legs_fit}

module _ (head s : List ℕ) where
  pub submission_fits : (e : Submission) → read_of (members_in head) s ≡ Some (Submit e) → SubmissionFit head e
  submission_fits e r =
      let f = submission (members_in head) e (legs_of s) (said (members_in head) s r).2 in
      record {
        member_below = f.member<;
        contract_below = f.contract<;
        most_price_holds = f.price.to;
        least_lots = f.lots.from;
        most_lots_holds = f.lots.to;
      }

  pub limits_contract : (e : NewDayLimits) → read_of (members_in head) s ≡ Some (DayLimits e) → e.contract < contract_count
  limits_contract e r = (new_day_limits (members_in head) e (legs_of s) (said (members_in head) s r).2).contract<

  pub member_below : (m : ℕ) → read_of (members_in head) s ≡ Some (Default m) → m < members_in head
  member_below m r = default_member (members_in head) m (legs_of s) (said (members_in head) s r).2

  pub close_out_contract_below : (e : CloseOutTerms) → read_of (members_in head) s ≡ Some (CloseOut e) → e.contract < contract_count
  close_out_contract_below e r = close_out_contract (members_in head) e (legs_of s) (said (members_in head) s r).2

  pub close_out_ratio : (e : CloseOutTerms) → read_of (members_in head) s ≡ Some (CloseOut e) → e.ratio ≤ most_ratio
  unfolding event_sound
  close_out_ratio e r =
      let ranges = contract_sound e.contract && leb 1 e.ratio in
      let most = leb e.ratio most_ratio in
      leb-true e.ratio most_ratio (and_right ranges most (and_left (ranges && most) (eqb (length (legs_of s)) 0) (said (members_in head) s r).2))

-- Nothing is kept free of the lots run before a close-out.
pub most_run_left : (t : Tables) → Fits t → lots_run_in t.head + 0 ≤ most_lots_run
most_run_left t f = omega (arith, f.head_fit.most_run)

-- The tables as they were read for the test.
pub unsound_of : (t : Tables) {head prices book : List ℕ} {lots value lines : List ℤ} → head ≡ t.head → prices ≡ t.prices → lots ≡ t.lots → value ≡ t.value → book ≡ t.book
    → lines ≡ t.lines → unsound (lent head prices lots value book lines) ≡ unsound t
unsound_of t h p l v b n = rw (h, p, l, v, b, n) refl

-- ---- the legs of a proposal
-- What the legs that were read of a sound proposal are: l is what `read_legs` promises.
module _ (n k : ℕ) (s : List ℕ) (l : List Leg) (e : l ≡ in_places (held_legs s)) (r : read_of n s ≡ Some (Proposal k)) where
  sized : length (legs_of s) ≡ k
  sized = (counted n k (legs_of s) (said n s r).2).1

  in_order : l ≡ in_places (legs_of s)
  in_order = e ∙ ap in_places (legs_said n s k (said n s r).1 (said n s r).2)

  pub legs_room : k ≤ length l
  legs_room =
      let few = (proposal n k (legs_of s) (said n s r).2).few in
      omega (arith, ap length in_order, places_length (legs_of s) few, few, sized)

  pub legs_are : take k l ≡ legs_of s
  legs_are = rw (in_order, ← sized) (placed (legs_of s))

  pub legs_fit_lem : LegsFit (take k l)
  legs_fit_lem = rw legs_are (legs_fit n k (legs_of s) (said n s r).2)
