use mathlib.Core.Path.{◌∙◌}
use Rattle.contract_phases.proofs.Phases.{phase_by_first}
use Rattle.contract_phases.proofs.by_contract.phase_of.Goals as goal

pub returns : goal.returns
returns c =
    let least = c.least_of.ensures in
    let later = c.least_of-2.ensures in
    let months = c.months_in.ensures in
    λ k d e g h. rw (least, later, months, e) at c.phase_from.ensures ∙ phase_by_first k d c.args.t c.requires.1 _ _ g h
