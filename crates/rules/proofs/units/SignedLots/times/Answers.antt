use Prim.Native.Nat.{ℕ, ◌^◌, ◌≤◌, ◌<◌}
use native.Mathlib.Omega.{arith}
use native.Mathlib.Nat.{mul-le-mul}
use lib.IntN.{ℤ, pos, nat_abs, ◌*ℤ◌}
use Rattle.arith.proofs.Signed.{rd_pos, back, sfits_abs}
use Rattle.arith.proofs.Sizes.{abs_times}
use Rattle.rules.specs.Ranges.{most_lots_run, most_price}
use Rattle.rules.proofs.units.SignedLots.times.Goals as goal

value_fits : (x : ℤ) (n : ℕ) → nat_abs x ≤ most_lots_run → n ≤ most_price → nat_abs (x *ℤ pos n) < 2 ^ 63
value_fits x n h g = omega (arith, abs_times x (pos n), mul-le-mul h g)

pub overflow_mul-result : goal.overflow_mul-result
overflow_mul-result c =
    let x = c.args.self.0 in
    let n = c.args.price.0 in rw (back x (omega arith), rd_pos n (omega arith)) (sfits_abs (x *ℤ pos n) (value_fits x n c.requires.0 c.requires.1))

pub returns : goal.returns
returns c =
    let x = c.args.self.0 in
    let n = c.args.price.0 in rw (back x (omega arith), rd_pos n (omega arith)) (back (x *ℤ pos n) (value_fits x n c.requires.0 c.requires.1))
