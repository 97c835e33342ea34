use Rattle.matching.specs.Crossing.{own_lots}
use Rattle.matching.proofs.crossing.own_lots.Goals as goal

pub returns-then-r-o : goal.returns-then-r-o
unfolding own_lots
returns-then-r-o c = rw (← c.is_same_side.ensures, c.if-r-o.true)

pub returns : goal.returns
unfolding own_lots
returns c = rw (← c.is_same_side.ensures, c.if-r-o.false)
