use native.Mathlib.Nat.{sub-zero}
use mathlib.Core.Path.{◌≡◌, sym, ap, ◌∙◌}
use mathlib.Core.Bool.{true, false}
use mathlib.Core.List.{map}
use Rattle.arith.specs.Lists.{any, from}
use Rattle.rules.specs.Ledger.{order_at}
use Rattle.order_book.specs.Left.{leaves}
use Rattle.arith.proofs.Scans.{some_next, some_end}
use Rattle.order_book.proofs.leaving.would_any_leave.Goals as goal

pub loop-i-init : goal.loop-i-init
loop-i-init c = rw (sub-zero c.args.count)

pub returns-then-does_leave : goal.returns-then-does_leave
returns-then-does_leave c =
    let a = c.args in
    let here : leaves a.w (order_at a.book.now c.loop-i.i) ≡ true = sym (c.does_leave.ensures ∙ ap (leaves a.w) c.order_at.ensures) ∙ c.if-does_leave.true in
    rw here at (some_next (order_at a.book.now) (leaves a.w) a.count c.loop-i.i false (any (leaves a.w) (map (order_at a.book.now) (from 0 a.count))) c.loop-i.invariant
    c.loop-i-test.true)

pub loop-i-preserved : goal.loop-i-preserved
loop-i-preserved c =
    let a = c.args in
    let here : leaves a.w (order_at a.book.now c.loop-i.i) ≡ false = sym (c.does_leave.ensures ∙ ap (leaves a.w) c.order_at.ensures) ∙ c.if-does_leave.false in
    rw here at (some_next (order_at a.book.now) (leaves a.w) a.count c.loop-i.i false (any (leaves a.w) (map (order_at a.book.now) (from 0 a.count))) c.loop-i.invariant
    c.loop-i-test.true)

pub returns : goal.returns
returns c =
    let a = c.args in
    some_end (order_at a.book.now) (leaves a.w) a.count c.loop-i.i false
    (any (leaves a.w) (map (order_at a.book.now) (from 0 a.count))) c.loop-i.invariant c.loop-i-test.false
