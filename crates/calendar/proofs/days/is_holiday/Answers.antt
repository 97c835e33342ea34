use Rattle.arith.proofs.Tests.{any_next, any_end}
use Rattle.calendar.proofs.days.is_holiday.Goals as goal

pub loop-holiday-preserved : goal.loop-holiday-preserved
loop-holiday-preserved c =
    let loop = c.loop-holiday in any_next _ c.args.holidays.now 0 loop.holiday-index loop.found loop.invariant c.loop-holiday-test.true

pub returns : goal.returns
returns c = let loop = c.loop-holiday in any_end _ c.args.holidays.now 0 loop.holiday-index loop.found loop.invariant c.loop-holiday-test.false
