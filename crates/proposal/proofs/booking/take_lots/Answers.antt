use native.Mathlib.Omega.{arith}
use mathlib.Core.Path.{◌≡◌, refl, ap, ◌∙◌}
use lib.ListN.{length}
use Rattle.proposal.specs.Booking.{left_after}
use Rattle.proposal.proofs.Taken.{after_next}
use Rattle.proposal.proofs.booking.take_lots.Goals as goal

pub loop-i-init : goal.loop-i-init
unfolding left_after
loop-i-init c = refl

pub loop-i-preserved : goal.loop-i-preserved
loop-i-preserved c =
    let a = c.args in
    after_next a.places.now a.legs.now c.loop-i.i a.left.now c.loop-i.left _ c.loop-i.invariant c.left_after.ensures

pub returns : goal.returns
returns c =
    let a = c.args in
    let same : c.loop-i.i ≡ length a.places.now = omega arith in
    c.loop-i.invariant ∙ ap (λ n. left_after a.places.now a.legs.now n a.left.now) same
