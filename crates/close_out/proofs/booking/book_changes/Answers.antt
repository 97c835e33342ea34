use mathlib.Core.Path.{sym, ap, ◌∙◌}
use native.Mathlib.Omega.{arith}
use lib.ListN.{length}
use Rattle.close_out.proofs.Changes.{lines_end, sum_next, each_none}
use Rattle.deal_lines.proofs.Takes.{less_room}
use Rattle.close_out.proofs.Running.{put, blank, running_next}
use Rattle.close_out.proofs.booking.book_changes.Goals as goal

pub book_change-at-requires : goal.book_change-at-requires
book_change-at-requires c =
    let pre = c.requires in
    let a = c.args in
    let now = c.loop-member.invariant blank in
    let g = sum_next a.gains.now c.loop-member.member (omega arith) in
    let s = sum_next a.losses.now c.loop-member.member (omega (arith, pre.gains_len.1)) in
    record {
      bookable = less_room _ _ (omega arith) now.takes;
      i_lt_least_lines = (omega (arith, now.few, pre.gains_bound.0), pre.gains_bound.1, pre.gains_bound.2, omega (arith, now.members));
    }

pub loop-member-preserved : goal.loop-member-preserved
loop-member-preserved c =
    let pre = c.requires in
    let a = c.args in
    let l = c.loop-member in
    let n = c.book_change-at.new in
    let k = c.book_change-at.ensures in
    λ t. running_next a.contract a.price.0 a.i a.gains.now a.losses.now _ pre.gains_len.1 pre.gains_bound.1 pre.gains_bound.2 pre.gains_bound.0
    (put l.head l.lots l.value l.lines t) l.at l.member (l.invariant t) (omega arith) (put n.head n.lots n.value n.lines t) _ (k.t_after t) k.value

pub returns : goal.returns
returns c =
    let a = c.args in
    let none = lines_end a.contract a.price.0 c.loop-member.member a.gains.now a.losses.now (omega arith) in
    let l = c.loop-member.invariant in
    record { value = omega (arith, (l blank).count, ap length none); t_after = λ t. sym (each_none c.loop-member.at _) ∙ rw none at (l t).same }
