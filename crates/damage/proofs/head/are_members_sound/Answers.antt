use Rattle.std.proofs.Common.{◌+◌, leb, get_or}
use Rattle.arith.specs.Lists.{every, from}
use Rattle.rules.specs.Ranges.{most_limit}
use Rattle.rules.specs.Ledger.{with_head, limits_from, marks_from, submits_from}
use Rattle.rules.specs.Refusals.{member_sound}
use Rattle.arith.proofs.Scans.{each_start, each_next, each_end}
use Rattle.damage.proofs.Tests.{all_three}
use Rattle.damage.proofs.head.are_members_sound.Goals as goal

pub loop-m-init : goal.loop-m-init
loop-m-init c = λ t. each_start (member_sound (with_head c.args.head.now t)) c.args.members

pub loop-m-preserved : goal.loop-m-preserved
unfolding member_sound
loop-m-preserved c =
    let args = c.args in
    let h = args.head.now in
    λ t. rw (all_three (leb (get_or h (limits_from + c.loop-m.m) 0) most_limit) (leb (get_or h (marks_from + c.loop-m.m) 0) 1) (leb (get_or h (submits_from + c.loop-m.m) 0) 5))
    (each_next (member_sound (with_head h t)) args.members c.loop-m.m c.loop-m.ok (every (member_sound (with_head h t)) (from 0 args.members)) (c.loop-m.invariant t)
    c.loop-m-test.true)

pub returns : goal.returns
returns c =
    let args = c.args in
    let h = args.head.now in
    λ t. each_end (member_sound (with_head h t)) args.members c.loop-m.m c.loop-m.ok (every (member_sound (with_head h t)) (from 0 args.members)) (c.loop-m.invariant t)
    c.loop-m-test.false
