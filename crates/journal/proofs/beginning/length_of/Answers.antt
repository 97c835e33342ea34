use mathlib.Core.Path.{refl, ◌∙◌}
use native.Mathlib.Omega.{arith}
use Rattle.rules.specs.Header.{header_length}
use Rattle.journal.proofs.beginning.length_of.Goals as goal

pub returns : goal.returns
unfolding header_length
returns c =
    (c.header_length.ensures ∙ rw (← c.u8_or_zero-members.ensures.0, ← c.u8_or_zero-holidays.ensures.0) refl, omega (arith, c.header_length.ensures, c.u8_or_zero-members.ensures.1, c.u8_or_zero-holidays.ensures.1))
