-- The lines of the legs booked one after the other. Assumes nothing.
use mathlib.Core.Path.{◌≡◌, refl, sym, ap, subst, ◌∙◌}
use mathlib.Core.List.{List}
use Prim.Native.Nat.{ℕ, ◌+◌, ◌<◌}
use native.Mathlib.Omega.{arith}
use native.Mathlib.Numerals.{add-one}
use lib.IntN.{ℤ, nat_abs}
use lib.ListN.{length, get_or, drop}
use lib.Seq.{drop-cons}
use Rattle.arith.specs.Lists.{total, from}
use Rattle.rules.specs.declared.event.Leg.{Leg}
use Rattle.rules.specs.declared.order.Order.{Order}
use Rattle.rules.specs.Ledger.{Tables, with_head, with_rows, with_lines, zero_tables, lots_run_place, order_at, booked}
use Rattle.rules.specs.Ranges.{least_lines}
use Rattle.deal_lines.specs.declared.lines.DealLine.{DealLine}
use Rattle.tables.specs.Fit.{BookFit, OrderFit, members_in, order_count_in}
use Rattle.deal_lines.specs.Lines.{LineFit, line_of, with_line}
use Rattle.rules.proofs.LinesRun.{booked_none}
use Rattle.deal_lines.proofs.Booked.{booked_more}
use Rattle.proposal_check.specs.Legs.{LegsFit, PlacesFit, no_leg, lots_of}
use Rattle.deal_lines.specs.Room.{Bookable}
use Rattle.proposal.specs.Booking.{leg_line_at, lines_to}
use Rattle.deal_lines.proofs.Takes.{Takes, takes_line, less_room, line_members}
use Rattle.proposal.proofs.Printed.{lines_length_lem, lines_more}
use Rattle.rules.proofs.Sides.{abs_signed}

-- Where a leg's line is booked, with the order as the code reads it.
abbrev pub deal_line : Order → Leg → DealLine
deal_line o g = record { member = o.member; contract = o.contract; side = o.side; lots = g.lots; price = g.price }

-- The lots of the legs from i on.
abbrev pub lots_from : List Leg → ℕ → ℕ
lots_from legs i = total lots_of (drop i legs)

pub lots_first : (legs : List Leg) (i : ℕ) → i < length legs → lots_from legs i ≡ (get_or legs i no_leg).lots.0 + lots_from legs (i + 1)
unfolding total
lots_first legs i h = rw (add-one, drop-cons legs i no_leg h) refl

module _ (book places : List ℕ) (legs : List Leg) (head₀ : List ℕ) (rows₀ value₀ lines₀ : List ℤ) where
  -- Tables in which the first i legs are booked.
  pub record LegsBooked (i : ℕ) (head : List ℕ) (rows value lines : List ℤ) : Type 0 where
    pub able : Bookable (lots_from legs i) head rows value lines
    pub same_members : members_in head ≡ members_in head₀
    pub tables : (t : Tables) → with_head head (with_rows rows value (with_lines lines t))
        ≡ (booked (lines_to book places legs i) (with_head head₀ (with_rows rows₀ value₀ (with_lines lines₀ t)))).after

  pub legs_start : Bookable (total lots_of legs) head₀ rows₀ value₀ lines₀ → LegsBooked 0 head₀ rows₀ value₀ lines₀
  unfolding from
  legs_start able =
      record {
        able = able;
        same_members = refl;
        tables = λ t. sym (ap (λ x. x.after) (booked_none (with_head head₀ (with_rows rows₀ value₀ (with_lines lines₀ t)))));
      }

  module _ (fit : LegsFit legs) (many : length places ≡ length legs) (b : BookFit head₀ book) (there : PlacesFit (order_count_in head₀) places)
      (long : lots_run_place < length head₀) (i : ℕ) (below : i < length legs) (head : List ℕ) (rows value lines : List ℤ) (done : LegsBooked i head rows value lines)
      (o : Order) (at : o ≡ order_at book (get_or places i 0)) where
    abbrev order_fit : OrderFit head₀ book (get_or places i 0)
    order_fit = b.order_fit (get_or places i 0) (there.below i (omega arith))

    same_line : line_of (deal_line o (get_or legs i no_leg)) ≡ leg_line_at book places legs i
    same_line = ap (λ x. line_of (deal_line x (get_or legs i no_leg))) at

    sound : LineFit head (leg_line_at book places legs i)
    sound = record { contract_below = order_fit.contract_below; member_below = rw done.same_members order_fit.member_below; most_price_holds = fit.most_price_holds i below }

    pub leg_takes : Bookable (get_or legs i no_leg).lots.0 head rows value lines × (LineFit head (line_of (deal_line o (get_or legs i no_leg))) × (i < least_lines))
    leg_takes = (less_room _ _ (omega (arith, lots_first legs i below)) done.able, (rw same_line sound, omega (arith, fit.most_legs_holds)))

    pub legs_next : (head' : List ℕ) (rows' value' lines' : List ℤ)
        → ((t : Tables) → with_head head' (with_rows rows' value' (with_lines lines' t)) ≡ with_line i (line_of (deal_line o (get_or legs i no_leg)))
        (with_head head (with_rows rows value (with_lines lines t))))
        → LegsBooked (i + 1) head' rows' value' lines'
    legs_next head' rows' value' lines' says =
        let l = leg_line_at book places legs i in
        let u = with_head head (with_rows rows value (with_lines lines zero_tables)) in
        let says-line : (t : Tables) → with_head head' (with_rows rows' value' (with_lines lines' t)) ≡ with_line i l (with_head head (with_rows rows value (with_lines lines t)))
        = λ t. says t ∙ ap (λ x. with_line i x (with_head head (with_rows rows value (with_lines lines t)))) same_line in
        record {
          able = subst (Takes (lots_from legs (i + 1))) (sym (says-line zero_tables)) (takes_line (lots_from legs (i + 1)) i l u (omega (arith, fit.most_legs_holds)) sound room);
          same_members = ap (λ x. members_in x.head) (says-line zero_tables) ∙ line_members i l u ∙ done.same_members;
          tables = λ t. says-line t ∙ ap (with_line i l) (done.tables t)
              ∙ booked_more (lines_to book places legs i) l i (with_head head₀ (with_rows rows₀ value₀ (with_lines lines₀ t))) (sym (lines_length_lem book places legs i)) long
              ∙ ap (λ ls. (booked ls (with_head head₀ (with_rows rows₀ value₀ (with_lines lines₀ t)))).after) (lines_more book places legs i);
        }
      where
        room : Bookable (nat_abs (leg_line_at book places legs i).lots + lots_from legs (i + 1)) head rows value lines
        room = rw (abs_signed (order_at book (get_or places i 0)).side (get_or legs i no_leg).lots.0, ← lots_first legs i below) done.able
