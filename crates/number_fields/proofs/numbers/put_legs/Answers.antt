use native.Mathlib.Omega.{arith}
use mathlib.Core.List.{flat_map}
use mathlib.Core.Path.{◌≡◌, refl, ap, ◌∙◌}
use lib.ListN.{length, get_or}
use Rattle.arith.specs.Lists.{over}
use Rattle.arith.proofs.Runs.{run_of}
use Rattle.arith.proofs.Widths.{blocks_none, blocks_next}
use Rattle.codec.specs.Legs.{no_leg}
use Rattle.rules.specs.Records.{leg_numbers}
use Rattle.number_fields.proofs.numbers.put_legs.Goals as goal

pub loop-i-init : goal.loop-i-init
loop-i-init c = blocks_none leg_numbers 3 (λ g. refl) (λ j. get_or c.args.legs.now j no_leg) 2 _

pub loop-i-preserved : goal.loop-i-preserved
loop-i-preserved c =
    blocks_next leg_numbers 3 (λ g. refl) (λ j. get_or c.args.legs.now j no_leg) 2 c.loop-i.i _ _ _ _ refl c.loop-i.invariant c.put_leg.ensures (omega arith)

pub returns : goal.returns
returns c =
    let legs = c.args.legs.now in
    let all : c.loop-i.i ≡ length legs = omega arith in
    rw all at c.loop-i.invariant ∙ ap (λ x. over 2 (flat_map leg_numbers x) c.args.row.now) (run_of (λ j. get_or legs j no_leg) legs no_leg (λ j _. refl))
