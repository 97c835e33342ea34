use mathlib.Core.Path.{◌∙◌}
use Rattle.proposal_check.proofs.Sums.{sums_fit, sums_balanced}
use Rattle.proposal_check.proofs.balance.are_both_balanced.Goals as goal

pub are_months_balanced-requires : goal.are_months_balanced-requires
are_months_balanced-requires c =
    let a = c.args in sums_fit a.book.now a.places.now a.legs.now c.requires.2 _ c.write_sums.ensures

pub returns : goal.returns
returns c =
    let a = c.args in c.are_months_balanced.ensures
    ∙ sums_balanced a.book.now a.places.now a.legs.now c.requires.2 _ c.write_sums.ensures
