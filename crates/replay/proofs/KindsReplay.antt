-- What replay takes of each kind of record, of tables of which nothing is known but that they are not damaged: one entry a kind.
-- A new kind adds its entry to `kind_replays`; what holds of every call and of every list follows from it. Assumes nothing.
use mathlib.Core.Path.{◌≡◌, refl}
use mathlib.Core.Bool.{Bool, true, not}
use mathlib.Core.List.{List, []}
use Prim.Native.Nat.{◌≤◌}
use lib.Dec.{eqb}
use Rattle.arith.specs.Lists.{kept}
use Rattle.rules.specs.declared.event.Event.{Event}
use Rattle.rules.specs.declared.event.Event.TheVariants.{Submit, Cancel, DayLimits, Proposal, Default, CloseOut, CloseOfDay}
use Rattle.rules.specs.declared.event.Leg.{Leg}
use Rattle.rules.specs.declared.order.Order.{Order}
use Rattle.rules.specs.Ranges.{most_members}
use Rattle.rules.specs.Ledger.{Tables, members, holiday_count, orders}
use Rattle.rules.specs.Records.{event_sound}
use Rattle.rules.specs.Matching.{with_deals, counted, submit_matched, submit_lines, submit_orders, submit_booked}
use Rattle.rules.specs.Synthetic.{proposal_lines, used_by_legs, proposal_booked}
use Rattle.rules.specs.Default.{default_booked, close_out_lines, close_out_booked}
use Rattle.rules.specs.Refusals.{is_cancelled, kind_causes, kind_booked}
use Rattle.rules.proofs.SoundEvents.{submission, new_day_limits, default_member, close_out_contract}
use Rattle.rules.proofs.SoundTables.{Long, Undamaged}
use Rattle.accounts.proofs.CloseOutLines.{close_out_fits}
use Rattle.accounts.proofs.EachKind.{NoCause}
use Rattle.accounts.proofs.KindsKeep.{kind_keeps}
use Rattle.accounts.proofs.OrdersAfter.{submit_orders_lem, cancel_orders, proposal_orders, default_orders}
use Rattle.accounts.proofs.Proposals.{proposal_fits}
use Rattle.accounts.proofs.Runs.{sound_of}
use Rattle.accounts.proofs.Submits.{submit_fits}
use Rattle.replay.specs.Surplus.{SameButSurplus}
use Rattle.replay.proofs.EachKind.{OutcomesAlike, submit_causes_lem, submit_alike, cancel_causes_lem, cancel_alike, limits_causes, limits_alike, proposal_causes_lem, proposal_alike}
use Rattle.replay.proofs.EachKind.{default_causes_lem, default_alike, close_out_causes_lem, close_out_alike, close_causes_lem, close_alike}
use Rattle.replay.proofs.Leaves.{Leaves, Unwritten, timed_unwritten, booked_leaves, ordered_leaves, close_leaves}
use Rattle.replay.proofs.SurplusTables.{TablesSurplus, untouched, with_time_lem, with_counted, with_deals_lem, with_limits, with_mark_lem}

pub record Replays (e : Event) (t : Tables) (legs : List Leg) : Type 0 where
  -- on tables v that agree with t but for surplus, the same causes, and what is booked is alike
  pub causes : (v : Tables) → SameButSurplus t v → Long v → kind_causes t e legs ≡ kind_causes v e legs
  pub alike : (v : Tables) → SameButSurplus t v → Long v → OutcomesAlike (members t) (holiday_count t) (kind_booked t e legs) (kind_booked v e legs)
  -- where no cause holds, surplus is as it was
  pub leaves : NoCause t e legs → Leaves t (kind_booked t e legs)

pub kind_replays : (e : Event) (t : Tables) (legs : List Leg) → Undamaged t → event_sound (members t) e legs ≡ true → Replays e t legs
unfolding submit_booked proposal_booked default_booked close_out_booked
kind_replays event t legs u q = go event q
  where
    few : members t ≤ most_members
    few = u.head.members_range.to

    start : TablesSurplus (members t) (holiday_count t) t t
    start = untouched t u

    unwritten : Unwritten t t
    unwritten = record { lines = refl; book = refl }

    go : (e : Event) → event_sound (members t) e legs ≡ true → Replays e t legs
    go (Submit e) q =
        let f = submission (members t) e legs q in
        let w = timed_unwritten e.time t in
        let a = with_deals_lem few (with_counted few (with_time_lem few start e.time) e.member f.member<) e.contract f.contract< (submit_matched t e).deals in
        record {
          causes = λ v s l. submit_causes_lem t v s u l e f;
          alike = λ v s l. submit_alike t v s u l e f;
          leaves = λ n.
              let k = kind_keeps (Submit e) t legs u q n in
              ordered_leaves t u _ (submit_orders t e) (submit_lines t e) (unfold with_deals counted in record { lines = w.lines; book = w.book }) a (submit_orders_lem t u e)
              (submit_fits t (sound_of u) e f.contract< f.member<) k.fits k.book;
        }
    go (Cancel e) q =
        let others : Order → Bool = λ o. not (is_cancelled e o) in
        record {
          causes = λ v s l. cancel_causes_lem t v s u l e;
          alike = λ v s l. cancel_alike t v s u l e;
          leaves = λ n.
              let k = kind_keeps (Cancel e) t legs u q n in
              ordered_leaves t u _ (kept others (orders t)) [] (timed_unwritten e.time t) (with_time_lem few start e.time) (cancel_orders t u e.time others) tt k.fits k.book;
        }
    go (DayLimits e) q =
        let contract< = (new_day_limits (members t) e legs q).contract< in
        record {
          causes = λ v s l. limits_causes t v s u l e;
          alike = λ v s l. limits_alike t v s u l e contract<;
          leaves = λ n.
              let a = with_limits few start e.contract e.low.0 e.high.0 contract< in
              booked_leaves t u _ [] (record { lines = refl; book = refl }) a tt (kind_keeps (DayLimits e) t legs u q n).fits;
        }
    go (Proposal i) q = record {
      causes = λ v s l. proposal_causes_lem t v s u l legs;
      alike = λ v s l. proposal_alike t v s u l legs;
      leaves = λ n.
          let k = kind_keeps (Proposal i) t legs u q n in
          ordered_leaves t u t (used_by_legs legs (orders t)) (proposal_lines t legs) unwritten start (proposal_orders t u legs) (proposal_fits t (sound_of u) legs) k.fits k.book;
    }
    go (Default m) q =
        let member< = default_member (members t) m legs q in
        let others : Order → Bool = λ o. not (eqb o.member m) in
        record {
          causes = λ v s l. default_causes_lem t v s u l m member<;
          alike = λ v s l. default_alike t v s u l m member<;
          leaves = λ n.
              let k = kind_keeps (Default m) t legs u q n in
              ordered_leaves t u _ (kept others (orders t)) [] (record { lines = refl; book = refl }) (with_mark_lem few start m member<) (default_orders t u m) tt k.fits k.book;
        }
    go (CloseOut e) q =
        let contract< = close_out_contract (members t) e legs q in
        record {
          causes = λ v s l. close_out_causes_lem t v s u l e contract<;
          alike = λ v s l. close_out_alike t v s u l e contract<;
          leaves = λ n. booked_leaves t u t (close_out_lines t e) unwritten start (close_out_fits t e contract<) (kind_keeps (CloseOut e) t legs u q n).fits;
        }
    go (CloseOfDay i) q = record {
      causes = λ v s l. close_causes_lem t v s u l i;
      alike = λ v s l. close_alike t v s u l i;
      leaves = λ n. close_leaves t u i (kind_keeps (CloseOfDay i) t legs u q n).book;
    }
