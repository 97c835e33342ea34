use Prim.Native.Nat.{ℕ, ◌≤◌}
use lib.IntN.{ℤ}
use mathlib.Core.List.{List}
use mathlib.Core.Path.{◌≡◌, sym, ap, subst, ◌∙◌}
use native.Mathlib.Omega.{arith}
use lib.ListN.{length}
use Rattle.rules.specs.Ledger.{Tables, Line, zero_tables, order_count, with_head, with_prices, with_rows, with_book, with_lines, with_orders, orders, booked}
use Rattle.rules.specs.Synthetic.{proposal_lines, used_by_legs, proposal_booked}
use Rattle.rules.specs.Refusals.{proposal_spec}
use Rattle.tables.specs.Fit.{order_count_in}
use Rattle.order_book.proofs.Left.{all_orders}
use Rattle.proposal_check.specs.Legs.{PlacesFit}
use Rattle.proposal.specs.Booking.{lines_to}
use Rattle.proposal.proofs.Accepted.{count_after_lines, all_booked, named, line_count, run_passes, run_fits}
use Rattle.proposal.proofs.apply_at.Goals as goal

-- Tables with the lists of a call put into them.
abbrev tables : List ℕ → List ℕ → List ℤ → List ℤ → List ℕ → List ℤ → Tables → Tables
tables head prices lots value book lines t = with_head head (with_prices prices (with_rows lots value (with_book book (with_lines lines t))))

-- The lines leave the number of orders as it was.
count_at : (head head' : List ℕ) (lots value lines : List ℤ) (ls : List Line) (t : Tables)
    → with_head head' (with_rows lots value (with_lines lines t)) ≡ (booked ls (with_head head t)).after → order_count_in head' ≡ order_count_in head
count_at head head' lots value lines ls t e = ap order_count e ∙ count_after_lines ls (with_head head t)

pub returns-then-not-is_acceptable : goal.returns-then-not-is_acceptable
unfolding proposal_spec
returns-then-not-is_acceptable c =
    let a = c.args in
    λ t. rw (sym (c.is_acceptable.ensures (tables a.head.now a.prices.now a.lots.now a.value.now a.book.now a.lines.now t)) ∙ c.if-not-is_acceptable.true)

pub returns-then-run-gt-MOST_LOTS_RUN : goal.returns-then-run-gt-MOST_LOTS_RUN
unfolding proposal_spec
returns-then-run-gt-MOST_LOTS_RUN c =
    let a = c.args in
    λ t.
    let u = tables a.head.now a.prices.now a.lots.now a.value.now a.book.now a.lines.now t in
    let ok = sym (c.is_acceptable.ensures u) ∙ c.if-not-is_acceptable.false in
    let n = named u a.places.now a.legs.now c.requires.legs_fit.1 ok in
    rw (ok, run_passes n c.total_lots.result.0 c.total_lots.ensures.0 c.if-run-gt-MOST_LOTS_RUN.true)

pub book_legs-requires : goal.book_legs-requires
book_legs-requires c =
    let a = c.args in
    let u = tables a.head.now a.prices.now a.lots.now a.value.now a.book.now a.lines.now zero_tables in
    let n = named u a.places.now a.legs.now c.requires.legs_fit.1 (sym (c.is_acceptable.ensures u) ∙ c.if-not-is_acceptable.false) in
    let h = c.requires.head_fit.0 in
    let rows = c.requires.rows_fit in record {
      book_fit = (c.requires.head_fit.2, n.there, c.requires.legs_fit.0, n.many);
      bookable = (
        record {
          long = h.long;
          most_members_holds = h.most_members_holds;
          lots_fit = rows.0;
          value_fit = rows.1;
          lines_long = c.requires.head_fit.3;
          most_run = rw (← c.total_lots.ensures.0) (omega (arith, c.if-run-gt-MOST_LOTS_RUN.false));
        },
        h.most_orders_holds,
      );
    }

pub use_orders-requires : goal.use_orders-requires
use_orders-requires c =
    let a = c.args in
    let u = tables a.head.now a.prices.now a.lots.now a.value.now a.book.now a.lines.now zero_tables in
    let n = named u a.places.now a.legs.now c.requires.legs_fit.1 (sym (c.is_acceptable.ensures u) ∙ c.if-not-is_acceptable.false) in
    let h = c.requires.head_fit in
    let l = c.book_legs.new in
    let lines = lines_to a.book.now a.places.now a.legs.now (length a.legs.now) in
    let count = count_at a.head.now l.head l.lots l.value l.lines lines u (c.book_legs.ensures u) in (
      omega (arith, c.book_legs.auto.head, h.0.long),
      omega (arith, count, h.0.most_orders_holds),
      h.2.long,
      subst (λ n. PlacesFit n a.places.now) (sym count) n.there,
      sym n.many,
      λ i b. (h.2.order_fit i (omega (arith, count))).most_side,
    )

pub returns : goal.returns
unfolding proposal_spec proposal_booked orders
returns c =
    let a = c.args in
    let h = c.requires.head_fit in
    let l = c.book_legs.new in
    let legs = a.legs.now in
    let each = all_orders (λ o. 1 ≤ o.lots.0) a.book.now (order_count_in a.head.now) (λ i b. (h.2.order_fit i b).least_lots) in
    λ t.
    let u = tables a.head.now a.prices.now a.lots.now a.value.now a.book.now a.lines.now t in
    let ok = sym (c.is_acceptable.ensures u) ∙ c.if-not-is_acceptable.false in
    let n = named u a.places.now legs c.requires.legs_fit.1 ok in
    let lines = lines_to a.book.now a.places.now legs (length legs) in
    let count = count_at a.head.now l.head l.lots l.value l.lines lines u (c.book_legs.ensures u) in
    let used = n.used each h.2.numbers_distinct _ count in
    let after = with_head l.head (with_rows l.lots l.value (with_lines l.lines (with_prices a.prices.now (with_book a.book.now t)))) in
    rw (ok, run_fits n c.total_lots.result.0 c.total_lots.ensures.0 c.if-run-gt-MOST_LOTS_RUN.false)
    (all_booked (proposal_lines u legs) (used_by_legs legs (orders u)) (length legs) u after _ (line_count n)
    (c.book_legs.ensures (with_prices a.prices.now (with_book a.book.now t)) ∙ ap (λ ls. (booked ls u).after) (sym n.lines_are))
    (c.use_orders.ensures (with_prices a.prices.now (with_rows l.lots l.value (with_lines l.lines t))) ∙ ap (λ os. with_orders os after) used))
