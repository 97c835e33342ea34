-- Each line of an accepted record is in range: a deal and a leg are of some lots at a sound price, a close-out prints only what changes,
-- at a GGF that is not 0. Assumes nothing.
use Prim.Native.Nat.{ℕ, zero, suc, ◌≤◌, ◌<◌}
use mathlib.Core.Path.{◌≡◌, refl, ap, ◌∙◌}
use mathlib.Core.Bool.{true, ◌&&◌}
use mathlib.Core.List.{List, [], flat_map}
use native.Mathlib.Omega.{arith}
use lib.ListN.{length, take, drop}
use lib.Seq.{take-append_seam}
use lib.IntN.{nat_abs}
use borrow.Author.Tests.{eqb-false}
use Rattle.arith.specs.Lists.{All, from}
use Rattle.arith.proofs.Alls.{all_map, all_both}
use Rattle.arith.proofs.Tests.{and_left, and_right}
use Rattle.arith.proofs.Writes.{over_front}
use Rattle.rules.specs.Ranges.{contract_count, most_price}
use Rattle.rules.specs.declared.event.CloseOutTerms.{CloseOutTerms}
use Rattle.rules.specs.declared.event.Event.{Event}
use Rattle.rules.specs.declared.event.Event.TheVariants.{Submit, Cancel, DayLimits, Proposal, Default, CloseOut, CloseOfDay}
use Rattle.rules.specs.declared.event.Leg.{Leg}
use Rattle.rules.specs.declared.event.Submission.{Submission}
use Rattle.rules.specs.declared.order.Order.{Order}
use Rattle.rules.specs.declared.order.Side.{Side}
use Rattle.rules.specs.declared.order.Side.TheVariants.{Buy, Sell}
use Rattle.rules.specs.Ledger.{Tables, Line, line_places, members, ggf, orders, booked, first_lines}
use Rattle.rules.specs.Records.{number_sound, lots_sound, price_sound, leg_sound, event_sound}
use Rattle.rules.specs.Sides.{signed, other_side}
use Rattle.rules.specs.Matching.{opposes, matching, matched, deal_lines, incoming, submit_matched, submit_lines, submit_booked}
use Rattle.rules.specs.Synthetic.{named_legs, leg_line, proposal_lines, proposal_booked}
use Rattle.rules.specs.CloseOfDay.{close_booked}
use Rattle.rules.specs.Default.{close_out_lines, close_out_booked, default_booked}
use Rattle.rules.specs.Refusals.{kind_booked}
use Rattle.rules.proofs.SoundEvents.{InRange, lots_in_range, price_in_range, SoundSubmission, submission, proposal, close_out_contract}
use Rattle.rules.proofs.SoundTables.{Undamaged, SoundOrder, book_gives}
use Rattle.accounts.specs.Lines.{SoundLine, LinesSound, EveryLineSound}
use Rattle.accounts.proofs.Written.{lines_printed}
use Rattle.accounts.proofs.Matches.{best_all, by_deals}
use Rattle.accounts.proofs.Submits.{dealt_all, deals_each}
use Rattle.accounts.proofs.Proposals.{named_all, legs_all, mapped_all}
use Rattle.accounts.proofs.CloseOutLines.{close_out_all}
use Rattle.accounts.proofs.Remains.{remain_all, used_remain, HasLots}
use Rattle.accounts.proofs.RowsStay.{ggf_most}
use Rattle.accounts.proofs.EachKind.{NoCause, every_call}

-- ---- lots
signed_size : (s : Side) (q : ℕ) → nat_abs (signed s q) ≡ q
signed_size Buy q = refl
signed_size Sell zero = refl
signed_size Sell (suc q) = refl

-- of orders with one lot at least, each deal is of one lot at least
deals_some : (n : ℕ) (o : Order) (os : List Order) → All HasLots os → All (λ d. 1 ≤ d.lots) (matching n o os).deals
deals_some =
    by_deals (λ o os m. All HasLots os → All (λ d. 1 ≤ d.lots) m.deals) (λ o os a. tt)
    (λ o r os m e l ih a.
    let resting-lots = best_all HasLots (opposes o) os (all_map HasLots (λ b. opposes o b ≡ true → HasLots b) os (λ b p _. p) a) r e in
    (omega arith, ih (remain_all HasLots HasLots (λ b q u v p. u p) (used_remain r.number _ os) a)))

-- ---- each kind that prints lines
module _ (t : Tables) (u : Undamaged t) where
  -- what a line takes of a resting order
  abbrev GivesLine : Order → Type 0
  GivesLine o = (o.member < members t) × (o.contract < contract_count) × InRange 1 o.price.0 most_price

  resting_sound : All (SoundOrder t) (orders t)
  resting_sound = (book_gives t u.book_sound_holds).each

  resting_lines : All GivesLine (orders t)
  resting_lines = all_map (SoundOrder t) GivesLine (orders t) (λ o s. (s.member<, s.contract<, s.price)) resting_sound

  line : (m c p : ℕ) (s : Side) (q : ℕ) → m < members t → c < contract_count → 1 ≤ q → InRange 1 p most_price
      → SoundLine (members t) (record { member = m; contract = c; lots = signed s q; price = p })
  line m c p s q m< c< some price = record { member< = m<; contract< = c<; lots≥ = omega (arith, signed_size s q); price≥ = price.from; price≤ = price.to }

  submit_lines_lem : (e : Submission) → SoundSubmission (members t) e → All (SoundLine (members t)) (submit_lines t e)
  unfolding submit_lines submit_matched matched
  submit_lines_lem e f =
      let os = orders t in
      let o = incoming t e in
      let ds = (matching (length os) o os).deals in
      let some = deals_some (length os) o os (all_map (SoundOrder t) HasLots os (λ b s. s.lots.from) resting_sound) in
      let known = dealt_all GivesLine (λ b q p. p) (length os) o os resting_lines in
      deals_each (SoundLine (members t)) o ds
      (all_map (λ d. (1 ≤ d.lots) × GivesLine d.resting) (λ d. All (SoundLine (members t)) (deal_lines o d)) ds
      (λ d p. let price = d.resting.price.0 in (
        line e.member e.contract price e.side d.lots f.member< f.contract< p.0 p.1.2,
        (line d.resting.member e.contract price (other_side e.side) d.lots p.1.0 f.contract< p.0 p.1.2, tt),
      ))
      (all_both (λ d. 1 ≤ d.lots) (λ d. GivesLine d.resting) ds some known))

  proposal_lines_lem : (legs : List Leg) → All (λ g. leg_sound g ≡ true) legs → All (SoundLine (members t)) (proposal_lines t legs)
  unfolding proposal_lines
  proposal_lines_lem legs sound =
      let ns = named_legs (orders t) legs in
      mapped_all (SoundLine (members t)) leg_line ns
      (all_map (λ n. GivesLine n.order × (leg_sound n.leg ≡ true)) (λ n. SoundLine (members t) (leg_line n)) ns
      (λ n p. let g = n.leg in let two = number_sound g.order && lots_sound g.lots.0 in
      let lots = lots_in_range g.lots.0 (and_right (number_sound g.order) (lots_sound g.lots.0) (and_left two (price_sound g.price.0) p.1)) in
      line n.order.member n.order.contract g.price.0 n.order.side g.lots.0 p.0.0 p.0.1 lots.from
      (price_in_range g.price.0 (and_right two (price_sound g.price.0) p.1)))
      (all_both (λ n. GivesLine n.order) (λ n. leg_sound n.leg ≡ true) ns (named_all GivesLine (orders t) legs resting_lines) (legs_all (λ g. leg_sound g ≡ true) (orders t) legs sound)))

  close_out_lines_lem : (e : CloseOutTerms) → e.contract < contract_count → 1 ≤ ggf t e.contract → All (SoundLine (members t)) (close_out_lines t e)
  close_out_lines_lem e c< found =
      close_out_all t e (SoundLine (members t))
      (λ m z m< some. record { member< = m<; contract< = c<; lots≥ = some; price≥ = found; price≤ = ggf_most t e.contract u.prices_sound_holds c< })

-- ---- every call
-- what is booked with lines prints them, from the first place on
booked_sound : (t : Tables) (ls : List Line) (u : Tables) → All (SoundLine (members t)) ls → LinesSound t (booked ls u)
unfolding booked
booked_sound t ls u h =
    let xs = flat_map line_places ls in
    rw (lines_printed ls u.lines) (h, ap (take (length xs)) (over_front xs u.lines) ∙ take-append_seam xs (drop (length xs) u.lines))

kind_lines : (e : Event) (t : Tables) (legs : List Leg) → Undamaged t → event_sound (members t) e legs ≡ true → NoCause t e legs → LinesSound t (kind_booked t e legs)
unfolding submit_booked proposal_booked default_booked close_out_booked close_booked first_lines from flat_map
kind_lines (Submit e) t legs u q n = booked_sound t (submit_lines t e) _ (submit_lines_lem t u e (submission (members t) e legs q))
kind_lines (Cancel e) t legs u q n = booked_sound t [] _ tt
kind_lines (DayLimits e) t legs u q n = booked_sound t [] _ tt
kind_lines (Proposal i) t legs u q n = booked_sound t (proposal_lines t legs) _ (proposal_lines_lem t u legs (proposal (members t) i legs q).each)
kind_lines (Default m) t legs u q n = booked_sound t [] _ tt
kind_lines (CloseOut e) t legs u q n =
    let found = eqb-false (ggf t e.contract) 0 n.1.0 in
    booked_sound t (close_out_lines t e) _ (close_out_lines_lem t u e (close_out_contract (members t) e legs q) (omega (arith, found)))
kind_lines (CloseOfDay i) t legs u q n = (tt, refl)

pub every_line_sound : EveryLineSound
unfolding flat_map
every_line_sound = every_call LinesSound (λ t a q. rw q (tt, refl)) kind_lines
