use Rattle.std.proofs.Common.{arith}
use Rattle.printing.proofs.Lines.{line_read, deals_none, deals_next, deals_all}
use Rattle.printing.proofs.put_deals.Goals as goal

pub loop-i-init : goal.loop-i-init
loop-i-init c = (omega arith, deals_none _ _ _)

pub loop-i-preserved : goal.loop-i-preserved
loop-i-preserved c =
    let lines = c.args.lines.now in
    let line =
    line_read lines c.loop-i.i c.unsigned_abs-arg-1.given
    c.unsigned_abs-arg-in-loop-i-1.given c.put_deal-arg-in-loop-i-1.given
    c.unsigned_abs-arg-in-loop-i-2-1.given
    c.unsigned_abs.ensures.value
    c.unsigned_abs-in-loop-i.ensures.value c.unsigned_abs-in-loop-i-2.ensures.value
    c.put_deal-end.ensures in
    (omega (arith, c.put_deal-end.auto.out), deals_next c.loop-i.i lines (omega arith) c.loop-i.invariant.1 line)

pub returns : goal.returns
returns c = deals_all c.loop-i.i _ _ c.loop-i.auto.i-end c.loop-i-test.false c.loop-i.invariant.1
