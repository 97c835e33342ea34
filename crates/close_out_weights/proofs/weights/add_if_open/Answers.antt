use Rattle.close_out_weights.proofs.DayWeights.{none_added}
use Rattle.close_out_weights.proofs.weights.add_if_open.Goals as goal

pub returns-then-days-eq0 : goal.returns-then-days-eq0
returns-then-days-eq0 c = none_added _ _ _ c.if-days-eq0.true
