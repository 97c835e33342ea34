use mathlib.Core.Path.{refl}
use borrow.Author.Tests.{ne_eqb}
use native.Mathlib.Omega.{arith}
use Rattle.rules.specs.Header.{u16_at, u32_at}
use Rattle.listing_words.specs.Words.{other_way_round}
use Rattle.listing.proofs.ranges.other_way_round.Goals as goal

pub returns-then-size-eq1 : goal.returns-then-size-eq1
unfolding other_way_round
returns-then-size-eq1 c = (rw c.if-size-eq1.true refl, λ h. h)

pub returns-then-size-eq2 : goal.returns-then-size-eq2
unfolding other_way_round u16_at
returns-then-size-eq2 c = (rw c.if-size-eq2.true refl, λ h. omega arith)

pub returns : goal.returns
unfolding other_way_round u16_at u32_at
returns c = (rw (ne_eqb _ _ c.if-size-eq1.false, ne_eqb _ _ c.if-size-eq2.false) refl, λ h. omega arith)
