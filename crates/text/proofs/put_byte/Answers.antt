use native.Mathlib.Numerals.{add-one}
use lib.Seq.{set_split}
use Rattle.arith.specs.Lists.{over}
use borrow.Author.Rules.{rules}
use Rattle.text.proofs.put_byte.Goals as goal

pub returns : goal.returns
unfolding over
returns c = record { after = search rules; bytes = rw add-one (set_split _ _ _ c.requires) }
