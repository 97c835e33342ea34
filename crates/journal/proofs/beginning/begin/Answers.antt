use native.Mathlib.Omega.{arith}
use mathlib.Core.Path.{ap}
use lib.ListN.{length}
use Rattle.journal.proofs.Starts.{start_cut, start_made, start_refused}
use Rattle.journal.proofs.beginning.begin.Goals as goal

pub returns-then-is_last-bytes-clause-begun : goal.returns-then-is_last-bytes-clause-begun
returns-then-is_last-bytes-clause-begun c =
    start_cut _ _ _ _ _ (omega (arith, c.requires.0)) (rw c.length_of-length.ensures.0 at c.if-is_last-bytes.true)

pub put_head-requires : goal.put_head-requires
put_head-requires c = (c.requires.0, omega (arith, c.requires.1, c.make-answer.auto.head, ap length c.head.ensures))

pub returns-then-reply-eq-ACCEPTED-clause-begun : goal.returns-then-reply-eq-ACCEPTED-clause-begun
returns-then-reply-eq-ACCEPTED-clause-begun c =
    let pre = c.requires in
    let head = rw c.head.ensures at c.put_head.ensures.0 in
    start_made _ _ _ _ _ _ _ _ (c.make-answer.ensures _) (rw c.length_of-length.ensures.0 at c.if-is_last-bytes.false)
    _ _ c.reply_of-reply.ensures.0 pre.0 _ c.length_of-length.ensures.0 c.if-reply-eq-ACCEPTED.true head c.put_head.ensures.1

pub returns-clause-begun : goal.returns-clause-begun
returns-clause-begun c =
    let pre = c.requires in
    start_refused _ _ _ _ _ _ _ _ (c.make-answer.ensures _) (rw c.length_of-length.ensures.0 at c.if-is_last-bytes.false)
    _ _ c.reply_of-reply.ensures.0 pre.0 c.if-reply-eq-ACCEPTED.false c.put_refusal.ensures.0 c.put_refusal.ensures.1
