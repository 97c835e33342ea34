use native.Mathlib.Nat.{add-zero}
use Prim.Native.Nat.{◌*◌}
use Rattle.matching.proofs.deals.deal_at.Goals as goal

pub returns : goal.returns
returns c = rw (add-zero (c.args.k * 3))
