use Rattle.std.proofs.Common.{◌≡◌, ℤ, pos, negsuc, refl, to_z-of_z}
use mir.Syntax.{w64}
use mir.Val.{of_z}
use Rattle.arith.specs.Bits.{bits_of}
use Rattle.damage.proofs.rows.raised.Goals as goal

bits_are : (x : ℤ) → of_z w64 x ≡ bits_of x
unfolding bits_of
bits_are (pos n) = refl
bits_are (negsuc n) = refl

pub returns : goal.returns
returns c = let x = c.args.x in rw (c.cast_unsigned.ensures, to_z-of_z c.ranges.x, bits_are x)
