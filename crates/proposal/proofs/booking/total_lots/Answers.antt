use native.Mathlib.Omega.{arith}
use mathlib.Core.Path.{◌≡◌}
use lib.ListN.{drop_of_length-le}
use Rattle.arith.specs.Lists.{total}
use Rattle.proposal_check.specs.Legs.{lots_of}
use Rattle.proposal.proofs.LegLines.{lots_first}
use Rattle.proposal.proofs.booking.total_lots.Goals as goal

pub overflow_add-sum : goal.overflow_add-sum
overflow_add-sum c = omega (arith, c.requires.most_lots_holds c.loop-leg.leg-index c.loop-leg-test.true, c.requires.most_legs_holds, c.loop-leg-test.true, c.loop-leg.invariant.0)

pub loop-leg-preserved : goal.loop-leg-preserved
loop-leg-preserved c = (
  omega (arith, c.requires.most_lots_holds c.loop-leg.leg-index c.loop-leg-test.true, c.loop-leg.invariant.0),
  omega (arith, c.loop-leg.invariant.1, lots_first c.args.legs.now c.loop-leg.leg-index c.loop-leg-test.true),
)

pub returns : goal.returns
unfolding total
returns c =
    let all : c.loop-leg.sum ≡ total lots_of c.args.legs.now = omega (arith, rw (drop_of_length-le c.args.legs.now c.loop-leg-test.false) at c.loop-leg.invariant.1) in
    (all, omega (arith, c.loop-leg.invariant.0, c.requires.most_legs_holds))
