use mathlib.Core.Path.{◌∙◌}
use Rattle.proposal_check.proofs.LastRanks.{kept_behind, kept_ahead}
use Rattle.proposal_check.proofs.priority.is_kept.Goals as goal

pub returns-then-lasts-at : goal.returns-then-lasts-at
returns-then-lasts-at c =
    let a = c.args in kept_behind a.lasts.now a.legs.now a.o c.side_place-at.result c.rank_of.result
    c.side_place-at.ensures.0 c.rank_of.ensures c.if-lasts-at.true

pub returns : goal.returns
returns c =
    let a = c.args in
    c.is_full_leg.ensures ∙ kept_ahead a.lasts.now a.legs.now a.o c.side_place-at.result c.rank_of.result
    c.side_place-at.ensures.0 c.rank_of.ensures c.if-lasts-at.false
