use native.Mathlib.Omega.{arith}
use mathlib.Core.Path.{◌≡◌}
use Rattle.arith.specs.Lists.{from}
use Rattle.rules.specs.Records.{leg_in}
use Rattle.codec.proofs.PlacedLegs.{none_placed, leg_placed}
use Rattle.number_fields.specs.RecordFields.{leg_field, first_legs}
use Rattle.number_fields.proofs.event.legs_in.Goals as goal

pub loop-i-init : goal.loop-i-init
unfolding from
loop-i-init c = none_placed

pub loop-i-preserved : goal.loop-i-preserved
loop-i-preserved c = leg_placed (λ j. leg_in c.args.row.now (leg_field j)) c.loop-i.i (omega arith) c.leg_in.ensures c.loop-i.invariant

pub returns : goal.returns
unfolding first_legs
returns c =
    let all : c.loop-i.i ≡ c.args.count = omega arith in
    rw (← all) c.loop-i.invariant
