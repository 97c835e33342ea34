use borrow.Author.Tests.{lt-ltb, le-ltb}
use lib.ListN.{get_or}
use Rattle.rules.specs.Ledger.{time_place}
use Rattle.rules.specs.Ledger.{timed, without_submits}
use Rattle.tables.proofs.head.set_time.Goals as goal

pub returns-then-time-head : goal.returns-then-time-head
unfolding timed
returns-then-time-head c = λ t. rw (le-ltb (get_or c.args.head.now time_place 0) c.args.time c.if-time-head.true)

pub returns : goal.returns
unfolding timed without_submits
returns c =
    let args = c.args in
    let if1 = c.if-time-head in
    let clear_at = c.clear_at in
    λ t. rw (clear_at.ensures, lt-ltb (get_or args.head.now time_place 0) args.time if1.false)
