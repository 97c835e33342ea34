use Rattle.std.proofs.Common.{◌≤◌, length, arith}
use Rattle.streams.specs.Windows.{held}
use Rattle.accounts.proofs.SameLengths.{same_lengths}
use Rattle.tables.specs.Lent.{tables_of}
use Rattle.tables.proofs.Same.{same_none, same_then}
use Rattle.journal.proofs.Lengths.{then_advanced}
use Rattle.journal_program.specs.Runs.{too_many}
use Rattle.journal_program.proofs.Turning.{going_stands}
use Rattle.journal_program.proofs.Running.{reached_first, turned_on, turned_end}
use Rattle.journal_program.proofs.shell.run_turns.Goals as goal

pub loop-init : goal.loop-init
loop-init g c =
    let first = c.first_place-place.ensures in
    let w = first.from_value in (
      first.stands.0,
      omega (arith, first.stands.1),
      reached_first c.args.input.now c.first_place-place.result first.stands.2 w.0 w.1 w.2 w.3,
      same_lengths (tables_of c.args.tables.now),
      same_none,
    )

pub turn-requires : goal.turn-requires
turn-requires g c =
    let pre = c.requires in
    let same = c.loop.auto in
    let kept = c.loop.invariant.3 in (
      c.loop.invariant.0,
      omega (arith, c.loop.invariant.1, c.loop-test.true),
      omega (arith, same.input, pre.0),
      omega (arith, same.output, pre.1),
      omega (arith, kept.head, pre.2),
      omega (arith, kept.lines, pre.3),
    )

pub loop-preserved : goal.loop-preserved
loop-preserved g c =
    let n = going_stands _ _ _ c.turn.ensures.next_stands c.in-Ok.is in
    let w = c.loop.invariant in
    let printed : c.loop.place.window.filled ≤ length c.loop.output = omega (arith, w.0.within.printed, c.loop.auto.output, c.requires.1) in
    let turned = c.turn.ensures.turned in
    (n.0, omega (arith, n.1, w.1), turned_on turned w.2 printed c.in-Ok.is, then_advanced w.3 turned.ran, same_then w.4 c.turn.ensures.same)

pub returns-in-Err : goal.returns-in-Err
returns-in-Err g c =
    let w = c.loop.invariant in
    let printed : c.loop.place.window.filled ≤ length c.loop.output = omega (arith, w.0.within.printed, c.loop.auto.output, c.requires.1) in
    record { ran = turned_end c.turn.ensures.turned w.2 printed c.in-Err.is; same = same_then w.4 c.turn.ensures.same }

pub returns : goal.returns
returns g c =
    let w = c.loop.place.window in
    record {
      ran = record {
        count = c.loop.counter;
        last = w.is_last;
        stage = c.loop.place.stage;
        filled = w.filled;
        left = held w c.loop.input;
        reached = c.loop.invariant.2;
        ends = too_many (omega (arith, c.loop.auto.counter-end, c.loop-test.false));
      };
      same = c.loop.invariant.4;
    }
