use Rattle.arith.specs.Lists.{over}
use Rattle.header.proofs.writer.put_letters.Goals as goal

pub returns : goal.returns
unfolding over
returns c = rw c.copy_from_slice.ensures.after
