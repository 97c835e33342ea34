use mathlib.Core.Path.{◌∙◌}
use Rattle.std.proofs.lemmas.Result.{err_from_is_err_and}
use Rattle.tables.specs.Lent.{tables_of}
use Rattle.submit.proofs.Applied.{refused_first, judged_read, refused_second, accepted}
use Rattle.submit.proofs.apply.Goals as goal

pub returns-in_err-first_cause-clause-answer : goal.returns-in_err-first_cause-clause-answer
returns-in_err-first_cause-clause-answer c =
    let a = c.args in
    let f = c.requires.head_fit in
    let u = tables_of a.tables.now in
    let first = rw (c.head.ensures, c.prices.ensures) at (c.first_cause.ensures u) in
    let p = err_from_is_err_and c.from_residual.result c.from_residual.ensures.1 in
    rw (p.1, p.2) (refused_first u a.e f.0 f.2 f.3 _ first _ c.in_err-first_cause.was)

pub returns-in_err-measured_cause-clause-answer : goal.returns-in_err-measured_cause-clause-answer
returns-in_err-measured_cause-clause-answer c =
    let a = c.args in
    let f = c.requires.head_fit in
    let u = tables_of a.tables.now in
    let found = c.measure-found.ensures in
    let judged = judged_read u a.e f.0 f.2 f.3 c.head.ensures c.prices.ensures c.head-2.ensures c.book.ensures c.head-3.ensures c.lots.ensures
    _ (c.order_of-o.ensures u) _ _ found.own_value found.lots_value _ _ (c.first_cause.ensures u) (c.measured_cause.ensures u) in
    let p = err_from_is_err_and c.from_residual-in_err-measured_cause.result c.from_residual-in_err-measured_cause.ensures.1 in
    rw (p.1, p.2) (refused_second judged c.in_ok-first_cause.was _ c.in_err-measured_cause.was)

pub book_submit-requires-clause-acceptable : goal.book_submit-requires-clause-acceptable
book_submit-requires-clause-acceptable c =
    let a = c.args in
    let f = c.requires.head_fit in
    let u = tables_of a.tables.now in
    let found = c.measure-found.ensures in
    let judged = judged_read u a.e f.0 f.2 f.3 c.head.ensures c.prices.ensures c.head-2.ensures c.book.ensures c.head-3.ensures c.lots.ensures
    _ (c.order_of-o.ensures u) _ _ found.own_value found.lots_value _ _ (c.first_cause.ensures u) (c.measured_cause.ensures u) in
    judged.accepts c.in_ok-first_cause.was c.in_ok-measured_cause.was

pub returns-clause-answer : goal.returns-clause-answer
returns-clause-answer c =
    let a = c.args in
    let f = c.requires.head_fit in
    let u = tables_of a.tables.now in
    let found = c.measure-found.ensures in
    let judged = judged_read u a.e f.0 f.2 f.3 c.head.ensures c.prices.ensures c.head-2.ensures c.book.ensures c.head-3.ensures c.lots.ensures
    _ (c.order_of-o.ensures u) _ _ found.own_value found.lots_value _ _ (c.first_cause.ensures u) (c.measured_cause.ensures u) in
    c.book_submit.ensures.answer ∙ accepted judged c.in_ok-first_cause.was c.in_ok-measured_cause.was
