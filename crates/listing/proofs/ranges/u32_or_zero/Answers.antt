use mathlib.Core.Path.{refl}
use native.Mathlib.Omega.{arith}
use Rattle.rules.specs.Header.{u32_at}
use Rattle.listing.proofs.ranges.u32_or_zero.Goals as goal

pub returns : goal.returns
unfolding u32_at
returns c = (rw (c.u16_or_zero.ensures.0, c.u16_or_zero-2.ensures.0) refl, omega arith)
