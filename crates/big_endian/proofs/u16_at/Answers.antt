use native.Mathlib.Omega.{arith}
use Rattle.rules.specs.Header.{u16_at}
use Rattle.big_endian.proofs.u16_at.Goals as goal

pub returns : goal.returns
unfolding u16_at
returns c = omega arith
