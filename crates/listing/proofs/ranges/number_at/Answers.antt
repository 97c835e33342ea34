use mathlib.Core.Path.{refl, ◌∙◌}
use borrow.Author.Tests.{ne_eqb}
use native.Mathlib.Omega.{arith}
use Rattle.rules.specs.Fields.{number_at}
use Rattle.listing.proofs.ranges.number_at.Goals as goal

pub returns-then-size-eq1 : goal.returns-then-size-eq1
unfolding number_at
returns-then-size-eq1 c = (c.u8_or_zero.ensures.0 ∙ rw c.if-size-eq1.true refl, omega arith)

pub returns-then-size-eq2 : goal.returns-then-size-eq2
unfolding number_at
returns-then-size-eq2 c = (c.u16_or_zero.ensures.0 ∙ rw c.if-size-eq2.true refl, omega arith)

pub returns : goal.returns
unfolding number_at
returns c = (c.u32_or_zero.ensures.0 ∙ rw (ne_eqb _ _ c.if-size-eq1.false, ne_eqb _ _ c.if-size-eq2.false) refl, omega arith)
