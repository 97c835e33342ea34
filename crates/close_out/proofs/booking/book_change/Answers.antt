use mathlib.Core.Path.{sym, ◌∙◌}
use native.Mathlib.Omega.{arith}
use Rattle.close_out.proofs.Changes.{no_change, each_none, each_one}
use Rattle.close_out.proofs.booking.book_change.Goals as goal

pub returns-then-gain-loss : goal.returns-then-gain-loss
returns-then-gain-loss c =
    let a = c.args in
    let none = no_change a.contract a.price.0 a.member a.gain a.loss c.if-gain-loss.true in
    record { value = rw none (omega arith); t_after = λ t. rw none (sym (each_none a.i _)) }

pub returns-clause-t_after : goal.returns-clause-t_after
returns-clause-t_after c =
    λ t. rw c.change_line-line.ensures.line (c.book_line.ensures t ∙ sym (each_one c.args.i _ _))
