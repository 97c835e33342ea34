use native.Mathlib.Omega.{arith}
use mathlib.Core.List.{flat_map}
use mathlib.Core.Path.{◌≡◌, refl, ap, ◌∙◌}
use lib.ListN.{length, get_or}
use Rattle.arith.specs.Lists.{over}
use Rattle.arith.proofs.Runs.{run_of}
use Rattle.arith.proofs.Widths.{blocks_none, blocks_next}
use Rattle.rules.specs.Records.{leg_bytes}
use Rattle.codec.specs.Legs.{no_leg}
use Rattle.codec.proofs.Written.{leg_wide}
use Rattle.codec.proofs.write.put_legs.Goals as goal

pub loop-i-init : goal.loop-i-init
loop-i-init c = blocks_none leg_bytes 10 leg_wide (λ j. get_or c.args.legs.now j no_leg) 2 _

pub put_leg-requires : goal.put_leg-requires
put_leg-requires c = rw c.leg_place.ensures (omega arith)

pub loop-i-preserved : goal.loop-i-preserved
loop-i-preserved c =
    let put = rw c.leg_place.ensures at c.put_leg.ensures in
    blocks_next leg_bytes 10 leg_wide (λ j. get_or c.args.legs.now j no_leg) 2 c.loop-i.i _ _ _ _ refl c.loop-i.invariant put (omega arith)

pub returns : goal.returns
returns c =
    let legs = c.args.legs.now in
    let all : c.loop-i.i ≡ length legs = omega arith in
    rw all at c.loop-i.invariant ∙ ap (λ x. over 2 (flat_map leg_bytes x) c.args.out.now) (run_of (λ j. get_or legs j no_leg) legs no_leg (λ j _. refl))
