use Rattle.rules.specs.Ledger.{order_count_place, time_place}
use Rattle.tables.specs.Fit.{OrdersFit}
use mathlib.Core.Path.{sym, ap, subst, ◌∙◌}
use native.Mathlib.Omega.{arith}
use lib.ListN.{get_or}
use borrow.Author.Tests.{lt-ltb, le-ltb}
use Rattle.rules.specs.Ledger.{orders, with_head, with_book, zero_tables}
use Rattle.rules.specs.Refusals.{cancel_spec}
use Rattle.rules.proofs.LinesRun.{booked_none}
use Rattle.tables.proofs.Heads.{orders_fit, timed_place}
use Rattle.cancel.proofs.apply.Goals as goal

pub returns-then-e-head : goal.returns-then-e-head
unfolding cancel_spec
returns-then-e-head c = λ t. rw (lt-ltb c.args.e.time (get_or c.args.head.now time_place 0) c.if-e-head.true)

pub would_any_leave-requires : goal.would_any_leave-requires
would_any_leave-requires c = (c.requires.0.most_orders_holds, c.requires.1.long)

pub returns-then-not-would_any_leave : goal.returns-then-not-would_any_leave
unfolding cancel_spec orders
returns-then-not-would_any_leave c =
    let args = c.args in
    λ t. rw (le-ltb args.e.time (get_or args.head.now time_place 0) c.if-e-head.false, sym c.would_any_leave.ensures ∙ c.if-not-would_any_leave.true)

pub set_time-requires : goal.set_time-requires
set_time-requires c =
    let pre = c.requires in
    (pre.0.long, pre.0.most_members_holds)

pub remove_orders-requires : goal.remove_orders-requires
remove_orders-requires c =
    let pre = c.requires in
    let a = c.args in
    let u = with_head a.head.now (with_book a.book.now zero_tables) in
    let count = ap (λ t. get_or t.head order_count_place 0) (c.set_time.ensures u) ∙ timed_place a.e.time u pre.0.long pre.0.most_members_holds 7 (omega arith) (λ e. omega arith) in
    (omega (arith, c.set_time.auto.head, pre.0.long), subst (λ n. OrdersFit n a.book.now) (sym count) (orders_fit a.head.now a.book.now pre.0 pre.1))

pub returns : goal.returns
unfolding cancel_spec orders
returns c =
    let pre = c.requires in
    let a = c.args in
    λ t.
    let u = with_head a.head.now (with_book a.book.now t) in
    let count = ap (λ t. get_or t.head order_count_place 0) (c.set_time.ensures u) ∙ timed_place a.e.time u pre.0.long pre.0.most_members_holds 7 (omega arith) (λ e. omega arith) in
    rw (
      le-ltb a.e.time (get_or a.head.now time_place 0) c.if-e-head.false,
      sym c.would_any_leave.ensures ∙ c.if-not-would_any_leave.false,
      ← c.set_time.ensures (with_book a.book.now t),
      booked_none _,
      ← count,
      ← c.remove_orders.ensures t,
    )
