use Rattle.rules.specs.Matching.{submits_at}
use borrow.Author.Tests.{lt-ltb, le-ltb}
use Rattle.submit_causes.proofs.causes.submits_at.Goals as goal

pub returns-then-head-time : goal.returns-then-head-time
unfolding submits_at
returns-then-head-time c = λ t. rw (lt-ltb _ _ c.if-head-time.true)

pub returns : goal.returns
unfolding submits_at
returns c = λ t. rw (le-ltb _ _ c.if-head-time.false)
