use Rattle.std.proofs.Common.{arith}
use Rattle.streams.specs.Windows.{held}
use Rattle.listing_program.specs.Runs.{not_read}
use Rattle.listing_program.proofs.Endings.{turn_ended}
use Rattle.listing_program.proofs.shell.list_records.Goals as goal

pub turn-requires : goal.turn-requires
turn-requires g c = (
  c.loop.invariant.0,
  omega (arith, c.loop.invariant.1, c.loop-test.true),
  c.requires.2,
  omega (arith, c.loop.auto.input, c.requires.3),
  omega (arith, c.loop.auto.output, c.requires.4),
)

pub loop-preserved : goal.loop-preserved
loop-preserved g c = let n = rw c.in-Ok.is at c.turn.ensures.0 in (n.0, omega (arith, n.1, c.loop.invariant.1))

pub returns-in-Err : goal.returns-in-Err
returns-in-Err g c =
    let w = c.loop.place.window in
    (w.is_last, held w c.loop.input, turn_ended c.args.ledger c.loop.place c.loop.input _ _ _ c.turn.result c.turn.ensures.1 c.in-Err.is)

pub returns : goal.returns
returns g c = (c.loop.place.window.is_last, held c.loop.place.window c.loop.input, not_read)
