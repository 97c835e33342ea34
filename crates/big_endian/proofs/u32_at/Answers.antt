use mathlib.Core.Path.{◌≡◌, ap}
use native.Mathlib.Omega.{arith}
use Prim.Native.Nat.{◌+◌}
use lib.ListN.{get_or}
use Rattle.rules.specs.Header.{u16_at, u32_at}
use Rattle.big_endian.proofs.u32_at.Goals as goal

pub returns : goal.returns
unfolding u16_at u32_at
returns c =
    let last : c.args.at + 2 + 1 ≡ c.args.at + 3 = omega arith in
    omega (arith, ap (λ k. get_or c.args.s.now k 0) last)
