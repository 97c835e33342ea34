use Rattle.matching.specs.Crossing.{crossing_lots}
use Rattle.matching.proofs.crossing.crossing_lots.Goals as goal

pub returns-then-does_oppose-does_meet : goal.returns-then-does_oppose-does_meet
unfolding crossing_lots
returns-then-does_oppose-does_meet c = rw (← c.does_oppose.ensures, ← c.does_meet.ensures, c.if-does_oppose-does_meet.true)

pub returns : goal.returns
unfolding crossing_lots
returns c = rw (← c.does_oppose.ensures, ← c.does_meet.ensures, c.if-does_oppose-does_meet.false)
