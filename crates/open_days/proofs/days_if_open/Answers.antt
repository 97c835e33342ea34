use mathlib.Core.Path.{sym, ◌∙◌}
use native.Mathlib.Omega.{arith}
use Rattle.contract_phases.proofs.Least.{first_read}
use Rattle.open_days.proofs.OpenDays.{after_read}
use Rattle.open_days.proofs.days_if_open.Goals as goal

pub returns-then-not-is_open_from : goal.returns-then-not-is_open_from
returns-then-not-is_open_from c = λ k d e g. rw (sym (c.is_open_from.ensures k d e g) ∙ c.if-not-is_open_from.true)

pub overflow_mul-first : goal.overflow_mul-first
overflow_mul-first c = rw c.months_in-n.ensures (omega arith)

pub overflow_add-result : goal.overflow_add-result
overflow_add-result c = rw c.months_in-n.ensures (omega arith)

pub offset_bounds-starts-first : goal.offset_bounds-starts-first
offset_bounds-starts-first c = rw c.months_in-n.ensures (omega arith)

pub bounds-starts-first : goal.bounds-starts-first
bounds-starts-first c = rw c.months_in-n.ensures (omega arith)

pub offset_bounds-starts-first-2 : goal.offset_bounds-starts-first-2
offset_bounds-starts-first-2 c = rw c.months_in-n.ensures (omega arith)

pub bounds-starts-first-2 : goal.bounds-starts-first-2
bounds-starts-first-2 c = rw c.months_in-n.ensures (omega arith)

pub overflow_sub-result : goal.overflow_sub-result
overflow_sub-result c = rw c.months_in-n.ensures (c.requires.2 _ _ (omega arith) (omega arith))

pub returns : goal.returns
returns c =
    let t = c.args.t in
    let w = c.requires.1 in
    λ k d e g. rw (sym (c.is_open_from.ensures k d e g) ∙ c.if-not-is_open_from.false, e, c.months_in-n.ensures, first_read k t w, after_read k t w)
