use native.Mathlib.Omega.{arith}
use borrow.Author.Tests.{lt-ltb}
use Rattle.order_priority.specs.Priority.{rank_of}
use Rattle.matching.specs.Ranks.{no_rank, rank_in, placed_rank}
use Rattle.matching.proofs.Best.{rank_below, rank_room}
use Rattle.matching.proofs.columns.rank_at.Goals as goal

pub overflow_mul-result : goal.overflow_mul-result
overflow_mul-result c =
    omega (arith, c.rank_of.ensures, rank_room c.args.r c.requires.0)

pub overflow_add-result : goal.overflow_add-result
overflow_add-result c =
    omega (arith, c.rank_of.ensures, rank_room c.args.r c.requires.0)

pub returns-then-does_oppose : goal.returns-then-does_oppose
unfolding rank_in placed_rank
returns-then-does_oppose c =
    let r = c.args.r in
    rw (← c.does_oppose.ensures, c.if-does_oppose.true, lt-ltb 0 r.lots.0 c.requires.1, lt-ltb (rank_of r) no_rank (rank_below r c.requires.0), c.rank_of.ensures)

pub returns : goal.returns
unfolding rank_in placed_rank
returns c = rw (← c.does_oppose.ensures, c.if-does_oppose.false)
