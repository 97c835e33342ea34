use Rattle.arith.proofs.Tests.{any_next, any_end}
use Rattle.proposal_check.proofs.conditions.do_two_occur.Goals as goal

pub loop-place-preserved : goal.loop-place-preserved
loop-place-preserved c = any_next _ c.args.places.now 0 c.loop-place.place-index c.loop-place.found c.loop-place.invariant c.loop-place-test.true

pub returns : goal.returns
returns c = any_end _ c.args.places.now 0 c.loop-place.place-index c.loop-place.found c.loop-place.invariant c.loop-place-test.false
