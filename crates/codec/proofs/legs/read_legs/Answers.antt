use native.Mathlib.Omega.{arith}
use mathlib.Core.Path.{◌≡◌, ap, ◌∙◌}
use Rattle.arith.specs.Lists.{from}
use Rattle.rules.specs.Records.{leg_place, leg_at}
use Rattle.codec.proofs.PlacedLegs.{none_placed, leg_placed}
use Rattle.codec.proofs.legs.read_legs.Goals as goal

pub loop-i-init : goal.loop-i-init
unfolding from
loop-i-init c = none_placed

pub leg_place-requires : goal.leg_place-requires
leg_place-requires c = omega (arith, c.legs_held-i-end.ensures.most)

pub leg_at-requires : goal.leg_at-requires
leg_at-requires c = rw c.leg_place.ensures (omega (arith, c.legs_held-i-end.ensures.inside))

pub loop-i-preserved : goal.loop-i-preserved
loop-i-preserved c =
    let s = c.args.bytes.now in
    leg_placed (λ j. leg_at s (leg_place j)) c.loop-i.i (omega (arith, c.legs_held-i-end.ensures.most)) (c.leg_at.ensures ∙ ap (leg_at s) c.leg_place.ensures) c.loop-i.invariant

pub returns : goal.returns
returns c =
    let all : c.loop-i.i ≡ c.legs_held-i-end.result = omega arith in
    rw (c.legs_held-i-end.ensures.legs, ← all) c.loop-i.invariant
