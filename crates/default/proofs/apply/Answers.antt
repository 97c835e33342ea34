use Rattle.tables.specs.Fit.{OrdersFit}
use mathlib.Core.Path.{sym, subst}
use native.Mathlib.Omega.{arith}
use lib.ListN.{length-set}
use lib.Seq.{get_or-set_other}
use borrow.Author.Tests.{eq-eqb, ne_eqb}
use Prim.Native.Nat.{◌+◌}
use Rattle.rules.specs.Ledger.{marks_from}
use Rattle.rules.specs.Ledger.{orders}
use Rattle.rules.specs.Default.{default_booked}
use Rattle.rules.specs.Refusals.{default_spec}
use Rattle.rules.proofs.LinesRun.{booked_none}
use Rattle.tables.proofs.Heads.{orders_fit}
use Rattle.default.proofs.apply.Goals as goal

pub returns-then-head-at-eq-DEFAULT_MARK : goal.returns-then-head-at-eq-DEFAULT_MARK
unfolding default_spec
returns-then-head-at-eq-DEFAULT_MARK c = λ t. rw (eq-eqb _ _ c.if-head-at-eq-DEFAULT_MARK.true)

pub remove_orders-requires : goal.remove_orders-requires
remove_orders-requires c =
    let pre = c.requires in
    let a = c.args in
    let count = get_or-set_other a.head.now (marks_from + a.member) 7 1 0 (λ e. omega arith) in
    (simp length-set (omega arith), subst (λ n. OrdersFit n a.book.now) (sym count) (orders_fit a.head.now a.book.now pre.0 pre.1))

pub shape_of-head : goal.shape_of-head
shape_of-head c =
    let args = c.args in
    omega (arith, length-set args.head.now (marks_from + args.member) 1, c.remove_orders.auto.head)

pub returns : goal.returns
unfolding default_spec default_booked orders
returns c =
    let a = c.args in
    let count = get_or-set_other a.head.now (marks_from + a.member) 7 1 0 (λ e. omega arith) in
    λ t. rw (ne_eqb _ _ c.if-head-at-eq-DEFAULT_MARK.false, ← count, booked_none _, ← c.remove_orders.ensures t)
