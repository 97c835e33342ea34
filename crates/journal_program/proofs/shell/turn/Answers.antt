use mathlib.Core.Path.{◌∙◌}
use native.Mathlib.Omega.{arith}
use Rattle.journal_program.proofs.Turning.{turn_counts, turn_bytes, turn_printed, turn_stands}
use Rattle.journal_program.proofs.Ending.{wants_bytes}
use Rattle.journal_program.proofs.shell.turn.Goals as goal

pub advance-done-requires : goal.advance-done-requires
advance-done-requires g c =
    let place = c.args.place in
    let bytes = c.args.input.now in
    let pre = c.requires in
    (turn_counts place bytes pre.0 pre.1, turn_bytes place bytes pre.0 pre.1, turn_printed place bytes pre.0 pre.1 pre.3, pre.4, pre.5)

pub follow-requires : goal.follow-requires
follow-requires g c =
    let pre = c.requires in
    let a = c.advance-done.ensures.advanced in
    (turn_stands c.args.place c.args.input.now pre.0 pre.1 _ _ _ pre.3 a.inside a.within a.counts, pre.2, c.advance-done.auto.out ∙ pre.3, λ e. (wants_bytes a e).0)

pub overflow_add-next : goal.overflow_add-next
overflow_add-next g c = omega (arith, c.requires.1)

pub returns : goal.returns
returns g c =
    record {
      next_stands = c.follow.ensures.0;
      turned = record { done = c.advance-done.result; ran = c.advance-done.ensures.advanced; follows = c.follow.ensures.1 };
      same = c.advance-done.ensures.same;
    }
