use mathlib.Core.Path.{ap, ◌∙◌}
use Rattle.rules.specs.Ledger.{order_at}
use Rattle.proposal_check.specs.LastRanks.{kept_by}
use Rattle.proposal_check.proofs.Lists.{all_next, all_end}
use Rattle.proposal_check.proofs.priority.are_kept.Goals as goal

pub loop-i-preserved : goal.loop-i-preserved
loop-i-preserved c =
    let a = c.args in
    let kept = kept_by a.lasts.now a.legs.now in
    rw (c.is_kept-ok.ensures ∙ ap kept c.order_at.ensures)
    (all_next (order_at a.book.now) kept a.count c.loop-i.i c.loop-i.ok _ c.loop-i.invariant c.loop-i-test.true)

pub returns : goal.returns
returns c =
    let a = c.args in
    all_end (order_at a.book.now) (kept_by a.lasts.now a.legs.now) a.count c.loop-i.i c.loop-i.ok _ c.loop-i.invariant c.loop-i-test.false
