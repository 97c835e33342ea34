-- What a sound event gives, kind by kind. Assumes nothing.
use Prim.Native.Nat.{ℕ, ◌-◌, ◌≤◌, ◌<◌}
use mathlib.Core.Path.{◌≡◌}
use mathlib.Core.Bool.{true, ◌&&◌}
use mathlib.Core.List.{List}
use native.Mathlib.Omega.{arith}
use lib.Dec.{eqb, leb, ltb}
use lib.ListN.{length}
use borrow.Author.Tests.{leb-true, ltb-true, eqb-true}
use Rattle.arith.specs.Lists.{All, every}
use Rattle.arith.proofs.Alls.{every_all}
use Rattle.arith.proofs.Tests.{and_left, and_right}
use Rattle.rules.specs.declared.event.Cancellation.{Cancellation}
use Rattle.rules.specs.declared.event.CloseOutTerms.{CloseOutTerms}
use Rattle.rules.specs.declared.event.Event.TheVariants.{Submit, Cancel, DayLimits, Proposal, Default, CloseOut}
use Rattle.rules.specs.declared.event.Leg.{Leg}
use Rattle.rules.specs.declared.event.NewDayLimits.{NewDayLimits}
use Rattle.rules.specs.declared.event.Submission.{Submission}
use Rattle.rules.specs.Ranges.{contract_count, last_second, most_price, most_lots, most_legs}
use Rattle.rules.specs.Records.{time_sound, contract_sound, price_sound, lots_sound, day_limits_sound, number_sound, leg_sound, event_sound}

-- ---- ranges
pub record InRange (least n most : ℕ) : Type 0 where
  pub from : least ≤ n
  pub to : n ≤ most

pub in_range : (least n most : ℕ) → leb least n && leb n most ≡ true → InRange least n most
in_range least n most e = record { from = leb-true least n (and_left (leb least n) (leb n most) e); to = leb-true n most (and_right (leb least n) (leb n most) e) }

pub price_in_range : (p : ℕ) → price_sound p ≡ true → InRange 1 p most_price
price_in_range p e = in_range 1 p most_price e

pub lots_in_range : (q : ℕ) → lots_sound q ≡ true → InRange 1 q most_lots
lots_in_range q e = in_range 1 q most_lots e

pub contract_below : (c : ℕ) → contract_sound c ≡ true → c < contract_count
contract_below c e = omega (arith, leb-true c (contract_count - 1) e)

-- ---- each kind, in a ledger of n members
pub record SoundSubmission (n : ℕ) (e : Submission) : Type 0 where
  pub time≤ : e.time ≤ last_second
  pub member< : e.member < n
  pub contract< : e.contract < contract_count
  pub price : InRange 1 e.price.0 most_price
  pub lots : InRange 1 e.lots.0 most_lots

pub submission : (n : ℕ) (e : Submission) (legs : List Leg) → event_sound n (Submit e) legs ≡ true → SoundSubmission n e
unfolding event_sound
submission n e legs q =
    let timeIs = time_sound e.time in
    let memberIs = ltb e.member n in
    let contractIs = contract_sound e.contract in
    let priceIs = price_sound e.price.0 in
    let lotsAre = lots_sound e.lots.0 in
    let five = and_left (timeIs && memberIs && contractIs && priceIs && lotsAre) (eqb (length legs) 0) q in
    let four = and_left (timeIs && memberIs && contractIs && priceIs) lotsAre five in
    let three = and_left (timeIs && memberIs && contractIs) priceIs four in
    let two = and_left (timeIs && memberIs) contractIs three in
    record {
      time≤ = leb-true e.time last_second (and_left timeIs memberIs two);
      member< = ltb-true e.member n (and_right timeIs memberIs two);
      contract< = contract_below e.contract (and_right (timeIs && memberIs) contractIs three);
      price = price_in_range e.price.0 (and_right (timeIs && memberIs && contractIs) priceIs four);
      lots = lots_in_range e.lots.0 (and_right (timeIs && memberIs && contractIs && priceIs) lotsAre five);
    }

pub cancel_time : (n : ℕ) (e : Cancellation) (legs : List Leg) → event_sound n (Cancel e) legs ≡ true → e.time ≤ last_second
unfolding event_sound
cancel_time n e legs q =
    let timeIs = time_sound e.time in
    let memberIs = ltb e.member n in
    let numberIs = number_sound e.order in
    leb-true e.time last_second (and_left timeIs memberIs (and_left (timeIs && memberIs) numberIs (and_left (timeIs && memberIs && numberIs) (eqb (length legs) 0) q)))

pub record SoundDayLimits (e : NewDayLimits) : Type 0 where
  pub contract< : e.contract < contract_count
  pub low≥ : 1 ≤ e.low.0
  pub ordered : e.low.0 ≤ e.high.0
  pub high≤ : e.high.0 ≤ most_price

pub new_day_limits : (n : ℕ) (e : NewDayLimits) (legs : List Leg) → event_sound n (DayLimits e) legs ≡ true → SoundDayLimits e
unfolding event_sound
new_day_limits n e legs q =
    let l = e.low.0 in
    let h = e.high.0 in
    let contractIs = contract_sound e.contract in
    let both = and_left (contractIs && day_limits_sound l h) (eqb (length legs) 0) q in
    let limits = and_right contractIs (day_limits_sound l h) both in
    let front = and_left (leb 1 l && leb l h) (leb h most_price) limits in
    record {
      contract< = contract_below e.contract (and_left contractIs (day_limits_sound l h) both);
      low≥ = leb-true 1 l (and_left (leb 1 l) (leb l h) front);
      ordered = leb-true l h (and_right (leb 1 l) (leb l h) front);
      high≤ = leb-true h most_price (and_right (leb 1 l && leb l h) (leb h most_price) limits);
    }

pub record SoundProposal (legs : List Leg) : Type 0 where
  pub few : length legs ≤ most_legs
  pub each : All (λ g. leg_sound g ≡ true) legs

pub proposal : (n k : ℕ) (legs : List Leg) → event_sound n (Proposal k) legs ≡ true → SoundProposal legs
unfolding event_sound
proposal n k legs q =
    let counts = leb 2 k && leb k most_legs in
    let lengthIs = eqb (length legs) k in
    let three = and_left (counts && lengthIs) (every leg_sound legs) q in
    let most = leb-true k most_legs (and_right (leb 2 k) (leb k most_legs) (and_left counts lengthIs three)) in
    record { few = omega (arith, eqb-true (length legs) k (and_right counts lengthIs three)); each = every_all leg_sound legs (and_right (counts && lengthIs) (every leg_sound legs) q) }

pub default_member : (n m : ℕ) (legs : List Leg) → event_sound n (Default m) legs ≡ true → m < n
unfolding event_sound
default_member n m legs q = ltb-true m n (and_left (ltb m n) (eqb (length legs) 0) q)

pub close_out_contract : (n : ℕ) (e : CloseOutTerms) (legs : List Leg) → event_sound n (CloseOut e) legs ≡ true → e.contract < contract_count
unfolding event_sound
close_out_contract n e legs q =
    let contractIs = contract_sound e.contract in
    let least = leb 1 e.ratio in
    let most = leb e.ratio 1000 in
    contract_below e.contract (and_left contractIs least (and_left (contractIs && least) most (and_left (contractIs && least && most) (eqb (length legs) 0) q)))
