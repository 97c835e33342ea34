use Rattle.submit_causes.proofs.Signs.{sum_is}
use lib.IntN.{pos}
use native.Mathlib.Omega.{arith}
use Rattle.arith.proofs.Signed.{rd_pos, back, add_ok}
use Rattle.submit_causes.proofs.position.is_above.Goals as goal

pub overflow_add-result : goal.overflow_add-result
overflow_add-result c =
    let a = c.args in
    rw (rd_pos a.more.0 (omega arith), ← back (pos a.more.0) (omega arith)) (add_ok a.net.0 (pos a.more.0) (omega arith))

pub returns : goal.returns
returns c = let a = c.args in rw (rd_pos a.limit.0 (omega arith), sum_is a.net.0 a.more.0 (omega arith))
