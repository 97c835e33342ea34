use Rattle.std.proofs.Common.{arith}
use Rattle.arith.proofs.Bits.{between}
use Rattle.damage.proofs.between.is_between.Goals as goal

pub returns : goal.returns
returns c =
    let a = c.args in
    between a.x a.first a.end _ (omega arith) c.requires (omega arith) (omega arith) (omega arith)
