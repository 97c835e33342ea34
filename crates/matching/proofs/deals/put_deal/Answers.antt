use native.Mathlib.Numerals.{add-one, add-two}
use native.Mathlib.Nat.{add-zero}
use Prim.Native.Nat.{◌*◌}
use Rattle.matching.specs.Deals.{deal_places}
use native.Mathlib.Omega.{arith}
use lib.ListN.{length-set}
use Rattle.arith.proofs.Writes.{stored}
use Rattle.matching.proofs.deals.put_deal.Goals as goal

pub bounds-deals-at-2 : goal.bounds-deals-at-2
bounds-deals-at-2 c = simp length-set (omega arith)

pub bounds-deals-at-3 : goal.bounds-deals-at-3
bounds-deals-at-3 c = simp length-set (omega arith)

pub returns : goal.returns
returns c =
    let at = c.args.k * 3 in
    rw (add-zero at, add-one at, add-two at) (stored (deal_places c.args.d) c.args.deals.now at (omega arith))
