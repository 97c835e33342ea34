-- A proposal that is accepted, as a whole. Assumes nothing.
use mathlib.Core.Path.{◌≡◌, refl, sym, ap, ◌∙◌}
use mathlib.Core.List.{List, map}
use mathlib.Core.Bool.{true, false}
use Prim.Native.Nat.{ℕ, ◌+◌, ◌<◌, ◌≤◌}
use native.Mathlib.Omega.{arith}
use lib.Dec.{ltb}
use lib.ListN.{length}
use lib.Seq.{get_or-set_other, set_comm}
use borrow.Author.Tests.{lt-ltb, le-ltb}
use Rattle.std.specs.Prelude.{Ok}
use Rattle.arith.specs.Lists.{All, every, total}
use Rattle.arith.proofs.Tests.{never, true_or}
use Rattle.rules.specs.declared.event.Leg.{Leg}
use Rattle.rules.specs.declared.order.Order.{Order}
use Rattle.rules.specs.Ranges.{most_lots_run}
use Rattle.rules.specs.Ledger.{Tables, Line, lots_run_place, order_count_place, lots_run, order_count, orders, with_orders, line_run, booked}
use Rattle.rules.specs.Refusals.{distinct, run_would_pass}
use Rattle.rules.specs.Synthetic.{named_legs, leg_line, acceptable, proposal_lines, used_by_legs}
use Rattle.tables.specs.Fit.{orders_in}
use Rattle.order_book.specs.Left.{left_over}
use Rattle.proposal_check.specs.Legs.{PlacesFit, lots_of, places_of}
use Rattle.proposal.specs.Booking.{lines_to, left_after, order_lots}
use Rattle.proposal_check.proofs.Named.{found_fit}
use Rattle.proposal_check.proofs.Checks.{acceptable_not, places_many, places_named}
use Rattle.proposal.proofs.Printed.{lines_length_lem, lines_run, lines_of}
use Rattle.proposal.proofs.Taken.{taken_legs}

-- Lines leave the book as it is, so orders can be used after them.
pub orders_after_lines : (ls : List Line) (os : List Order) (t : Tables) → with_orders os (booked ls t).after ≡ (booked ls (with_orders os t)).after
unfolding booked with_orders
orders_after_lines ls os t =
    rw (get_or-set_other t.head order_count_place lots_run_place (length os) 0 (λ e. omega arith), set_comm t.head lots_run_place order_count_place (lots_run t + line_run ls) (length os) (λ e. omega arith))

pub count_after_lines : (ls : List Line) (t : Tables) → order_count (booked ls t).after ≡ order_count t
unfolding booked
count_after_lines ls t = get_or-set_other t.head lots_run_place order_count_place (lots_run t + line_run ls) 0 (λ e. omega arith)

pub all_booked : (ls : List Line) (os : List Order) (n : ℕ) (t u v : Tables) → n ≡ length ls → u ≡ (booked ls t).after → v ≡ with_orders os u
    → record { answer = Ok n; after = v } ≡ booked ls (with_orders os t)
unfolding booked
all_booked ls os n t u v many lines used =
    ap (λ k. record { answer = Ok k; after = v }) many
    ∙ ap (λ x. record { answer = Ok (length ls); after = x }) (used ∙ ap (with_orders os) lines ∙ orders_after_lines ls os t)

-- ---- the legs
-- Legs that name orders of the book: where these stand, the lines, the lots that run, what is left of the orders.
pub record Named (t : Tables) (places : List ℕ) (legs : List Leg) : Type 0 where
  pub there : PlacesFit (order_count t) places
  pub many : length places ≡ length legs
  pub lines_are : proposal_lines t legs ≡ lines_to t.book places legs (length legs)
  pub run_is : line_run (proposal_lines t legs) ≡ total lots_of legs
  pub used : All (λ o. 1 ≤ o.lots.0) (orders t) → distinct (map (λ o. o.number) (orders t)) ≡ true → (k : ℕ) → k ≡ order_count t
      → left_over (left_after places legs (length places) (order_lots k t.book)) (orders_in k t.book) ≡ used_by_legs legs (orders t)

module _ (t : Tables) (places : List ℕ) (legs : List Leg) (at : places ≡ places_of (order_count t) t.book legs)
    (ok : acceptable t legs ≡ true) where
  same : orders t ≡ orders_in (order_count t) t.book
  unfolding orders
  same = refl

  found : every (λ p. ltb p (order_count t)) places ≡ true
  found =
      true_or (every (λ p. ltb p (order_count t)) places) (λ e. e)
      (λ e. never (sym ok ∙ acceptable_not t (order_count t) t.book places legs same at e))

  there_all : PlacesFit (order_count t) places
  there_all = found_fit (order_count t) places found

  many_all : length places ≡ length legs
  many_all = places_many t (order_count t) t.book places legs same at

  lines_all : proposal_lines t legs ≡ lines_to t.book places legs (length legs)
  unfolding proposal_lines
  lines_all =
      ap (λ os. map leg_line (named_legs os legs)) same
      ∙ lines_of t.book places legs (orders_in (order_count t) t.book) (places_named t (order_count t) t.book places legs same at found)

  run_all : line_run (proposal_lines t legs) ≡ total lots_of legs
  run_all = ap line_run lines_all ∙ lines_run t.book places legs

  used_all : All (λ o. 1 ≤ o.lots.0) (orders t) → distinct (map (λ o. o.number) (orders t)) ≡ true → (k : ℕ) → k ≡ order_count t
      → left_over (left_after places legs (length places) (order_lots k t.book)) (orders_in k t.book) ≡ used_by_legs legs (orders t)
  unfolding orders
  used_all each apart k e = rw e (taken_legs (order_count t) t.book legs each apart places at there_all)

  pub named : Named t places legs
  named =
      record {
        there = there_all;
        many = many_all;
        lines_are = lines_all;
        run_is = run_all;
        used = used_all;
      }

module _ {t : Tables} {places : List ℕ} {legs : List Leg} (n : Named t places legs) where
  pub line_count : length legs ≡ length (proposal_lines t legs)
  line_count = sym (ap length n.lines_are ∙ lines_length_lem t.book places legs (length legs))

  module _ (sum : ℕ) (e : sum ≡ total lots_of legs) where
    pub run_passes : most_lots_run < lots_run t + sum → run_would_pass t (proposal_lines t legs) ≡ true
    run_passes h = rw (n.run_is, ← e) (lt-ltb most_lots_run (lots_run t + sum) h)

    pub run_fits : lots_run t + sum ≤ most_lots_run → run_would_pass t (proposal_lines t legs) ≡ false
    run_fits h = rw (n.run_is, ← e) (le-ltb most_lots_run (lots_run t + sum) h)
