use Rattle.journal.proofs.LastLine.{end_printed}
use Rattle.journal.proofs.advancing.end_at.Goals as goal

pub returns : goal.returns
returns c = let printed = c.put_end-end.ensures in end_printed printed.0 printed.1 c.standing.ensures
