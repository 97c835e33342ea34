use Rattle.std.proofs.Common.{refl}
use Rattle.matching.proofs.columns.best_place.Goals as goal

pub returns-then-low-lt-NO_RANK : goal.returns-then-low-lt-NO_RANK
returns-then-low-lt-NO_RANK c = record { low = c.lowest_of_block-low.result; lowest = c.lowest_of_block-low.ensures; some = c.if-low-lt-NO_RANK.true; given = refl }

pub returns : goal.returns
returns c = record { low = c.lowest_of_block-low.result; lowest = c.lowest_of_block-low.ensures; none = c.if-low-lt-NO_RANK.false }
