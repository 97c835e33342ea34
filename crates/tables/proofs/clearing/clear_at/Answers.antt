use Rattle.arith.proofs.Writes.{filled}
use Rattle.tables.proofs.clearing.clear_at.Goals as goal

pub returns : goal.returns
returns c = let a = c.args in rw (c.fill.ensures.after (λ y h. h)) (filled a.at a.count a.places.now 0 c.requires)
