use Prim.Native.Nat.{◌-◌}
use mathlib.Core.Path.{sym, ◌∙◌}
use native.Mathlib.Omega.{arith}
use borrow.Author.Tests.{le-leb, lt-leb}
use Rattle.rules.proofs.CalendarLaws.{open_closed, open_first}
use Rattle.contract_phases.proofs.Least.{to_close_from}
use Rattle.contracts.proofs.InLedger.{earlier}
use Rattle.open_days.proofs.OpenDays.{open_from}
use Rattle.open_days.proofs.is_open_from.Goals as goal

pub overflow_mul-n : goal.overflow_mul-n
overflow_mul-n c = rw c.months_in-n.ensures (omega arith)

pub offset_bounds-starts-n : goal.offset_bounds-starts-n
offset_bounds-starts-n c = rw c.months_in-n.ensures (omega arith)

pub bounds-starts-n : goal.bounds-starts-n
bounds-starts-n c = rw c.months_in-n.ensures (omega arith)

pub returns-then-starts-n : goal.returns-then-starts-n
returns-then-starts-n c =
    let test = rw c.months_in-n.ensures at c.if-starts-n.true in
    λ k d e g. sym (open_closed k d c.args.t (to_close_from k c.args.t c.requires.1 d _ g ∙ lt-leb _ _ (rw e at test)))

pub returns-then-t-count : goal.returns-then-t-count
returns-then-t-count c =
    let test = rw c.months_in-n.ensures at c.if-starts-n.false in
    λ k d e g. sym (open_first k d c.args.t (to_close_from k c.args.t c.requires.1 d _ g ∙ le-leb _ _ (rw e at test)) (rw c.open_count-count.ensures at c.if-t-count.true))

pub overflow_mul-result : goal.overflow_mul-result
overflow_mul-result c =
    rw c.months_in-n.ensures (omega (arith, earlier c.args.t (c.args.t.index - c.open_count-count.result) (omega arith) c.requires.1))

pub offset_bounds-starts-n-2 : goal.offset_bounds-starts-n-2
offset_bounds-starts-n-2 c =
    rw c.months_in-n.ensures (omega (arith, earlier c.args.t (c.args.t.index - c.open_count-count.result) (omega arith) c.requires.1))

pub bounds-starts-n-2 : goal.bounds-starts-n-2
bounds-starts-n-2 c =
    rw c.months_in-n.ensures (omega (arith, earlier c.args.t (c.args.t.index - c.open_count-count.result) (omega arith) c.requires.1))

pub returns : goal.returns
returns c =
    let t = c.args.t in
    let test = rw c.months_in-n.ensures at c.if-starts-n.false in
    λ k d e g.
    let still = to_close_from k t c.requires.1 d _ g ∙ le-leb _ _ (rw e at test) in
    rw (e, c.months_in-n.ensures, c.open_count-count.ensures) (open_from k t c.requires.1 d _ g still (rw c.open_count-count.ensures at c.if-t-count.false))
