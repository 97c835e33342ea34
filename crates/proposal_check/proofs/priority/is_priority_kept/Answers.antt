use mathlib.Core.Path.{refl, ◌∙◌}
use Rattle.proposal_check.proofs.LastRanks.{legs_ranked, kept_last}
use Rattle.proposal_check.proofs.priority.is_priority_kept.Goals as goal

pub write_last_ranks-requires : goal.write_last_ranks-requires
write_last_ranks-requires c =
    let a = c.args in (legs_ranked a.count a.book.now a.places.now c.requires.0 c.requires.1, refl)

pub are_kept-requires : goal.are_kept-requires
are_kept-requires c =
    (c.requires.0, c.write_last_ranks.ensures.long)

pub returns : goal.returns
returns c =
    let a = c.args in
    c.are_kept.ensures ∙ kept_last a.count a.book.now a.places.now c.requires.0 c.requires.1 _ c.write_last_ranks.ensures a.legs.now
