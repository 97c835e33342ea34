-- The legs of a sound proposal. Assumes nothing.
use Prim.Native.Nat.{ℕ, ◌≤◌, ◌<◌}
use mathlib.Core.Path.{◌≡◌}
use mathlib.Core.Bool.{true, ◌&&◌}
use mathlib.Core.List.{List}
use lib.Dec.{eqb, leb}
use lib.ListN.{length, get_or}
use borrow.Author.Tests.{leb-true, eqb-true}
use Rattle.arith.proofs.Alls.{all_place}
use Rattle.arith.specs.Lists.{every}
use Rattle.arith.proofs.Tests.{and_left, and_right}
use Rattle.rules.specs.declared.event.Event.TheVariants.{Proposal}
use Rattle.rules.specs.declared.event.Leg.{Leg}
use Rattle.rules.specs.Ranges.{least_legs, most_legs, most_lots, most_price}
use Rattle.rules.specs.Records.{number_sound, lots_sound, price_sound, leg_sound, event_sound}
use Rattle.rules.proofs.SoundEvents.{InRange, proposal, lots_in_range, price_in_range}
use Rattle.proposal_check.specs.Legs.{no_leg, LegsFit}

-- how many legs a sound proposal has
pub counted : (n k : ℕ) (legs : List Leg) → event_sound n (Proposal k) legs ≡ true → (least_legs ≤ k) × (length legs ≡ k)
unfolding event_sound
counted n k legs sound =
    let few = leb least_legs k && leb k most_legs in
    let lengthIs = eqb (length legs) k in
    let three = and_left (few && lengthIs) (every leg_sound legs) sound in
    let least = leb-true least_legs k (and_left (leb least_legs k) (leb k most_legs) (and_left few lengthIs three)) in
    (least, eqb-true (length legs) k (and_right few lengthIs three))

pub legs_fit : (n k : ℕ) (legs : List Leg) → event_sound n (Proposal k) legs ≡ true → LegsFit legs
legs_fit n k legs sound =
    record {
      least_legs_holds = rw (counted n k legs sound).1 (counted n k legs sound).0;
      most_legs_holds = (proposal n k legs sound).few;
      least_lots = λ i h. (lots_fit i h).from;
      most_lots_holds = λ i h. (lots_fit i h).to;
      least_price = λ i h. (price_fits i h).from;
      most_price_holds = λ i h. (price_fits i h).to;
    }
  where
    leg : (i : ℕ) → i < length legs → leg_sound (get_or legs i no_leg) ≡ true
    leg i h = all_place (λ g. leg_sound g ≡ true) no_leg legs (proposal n k legs sound).each i h

    lots_fit : (i : ℕ) → i < length legs → InRange 1 (get_or legs i no_leg).lots.0 most_lots
    lots_fit i h =
        let g = get_or legs i no_leg in
        let number = number_sound g.order in
        let lots = lots_sound g.lots.0 in
        lots_in_range g.lots.0 (and_right number lots (and_left (number && lots) (price_sound g.price.0) (leg i h)))

    price_fits : (i : ℕ) → i < length legs → InRange 1 (get_or legs i no_leg).price.0 most_price
    price_fits i h =
        let g = get_or legs i no_leg in
        price_in_range g.price.0 (and_right (number_sound g.order && lots_sound g.lots.0) (price_sound g.price.0) (leg i h))
