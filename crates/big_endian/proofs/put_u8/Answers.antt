use native.Mathlib.Numerals.{add-one}
use lib.Seq.{set_split}
use Rattle.arith.specs.Lists.{over}
use Rattle.big_endian.proofs.put_u8.Goals as goal

pub returns : goal.returns
unfolding over
returns c = rw add-one (set_split _ _ _ c.requires.0)
