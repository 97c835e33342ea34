use native.Mathlib.Omega.{arith}
use mathlib.Core.Path.{sym, ◌∙◌}
use Rattle.rules.specs.Records.{leg_sound}
use Rattle.arith.proofs.Alls.{every_is_all}
use Rattle.codec.proofs.PlacedLegs.{few_legs, many_legs, missing_legs, proposal_judged}
use Rattle.codec.proofs.sound.is_proposal_sound.Goals as goal

pub returns-then-count-lt-LEAST_LEGS : goal.returns-then-count-lt-LEAST_LEGS
returns-then-count-lt-LEAST_LEGS c = λ n. sym (few_legs n _ _ c.if-count-lt-LEAST_LEGS.true)

pub returns-then-count-gt-MOST_LEGS : goal.returns-then-count-gt-MOST_LEGS
returns-then-count-gt-MOST_LEGS c = λ n. sym (many_legs n _ _ c.if-count-gt-MOST_LEGS.true)

pub returns-then-legs-n : goal.returns-then-legs-n
returns-then-legs-n c = λ n. sym (missing_legs n _ c.args.legs.now c.if-legs-n.true)

pub returns : goal.returns
returns c = λ n. c.are_legs_sound.ensures ∙ every_is_all leg_sound _
    ∙ sym (proposal_judged n _ c.args.legs.now c.if-count-lt-LEAST_LEGS.false c.if-count-gt-MOST_LEGS.false (omega arith))
