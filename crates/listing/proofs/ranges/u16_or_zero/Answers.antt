use mathlib.Core.Path.{refl}
use native.Mathlib.Omega.{arith}
use Rattle.rules.specs.Header.{u16_at}
use Rattle.listing.proofs.ranges.u16_or_zero.Goals as goal

pub returns : goal.returns
unfolding u16_at
returns c = (rw (c.u8_or_zero.ensures.0, c.u8_or_zero-2.ensures.0) refl, omega arith)
