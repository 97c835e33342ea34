use mathlib.Core.Path.{◌∙◌}
use Rattle.tables.specs.Lent.{tables_of}
use Rattle.submit.proofs.Accepted.{countable, counted_is, placed, submitted}
use Rattle.submit.proofs.booking.book_submit.Goals as goal

pub count_submit-requires : goal.count_submit-requires
count_submit-requires c =
    let a = c.args in
    let f = c.requires.head_fit in
    countable (tables_of a.tables.now) a.e f.0 f.1 f.2 f.3 a.crossing.0 c.requires.acceptable _ c.set_time.ensures

pub place_order-requires : goal.place_order-requires
place_order-requires c =
    let a = c.args in
    let f = c.requires.head_fit in
    let rows = c.requires.rows_fit in
    let u = tables_of a.tables.now in
    let counts = counted_is u a.e f.0 f.1 f.2 f.3 a.crossing.0 c.requires.acceptable _ c.set_time.ensures _ c.count_submit.ensures in
    placed u a.e f.0 f.1 f.2 f.3 _ counts _ (rw c.head.ensures at (c.order_of-o.ensures u)) a.crossing.0 c.requires.acceptable rows.0 rows.1 f.4

pub returns-clause-answer : goal.returns-clause-answer
returns-clause-answer c =
    let a = c.args in
    let f = c.requires.head_fit in
    let u = tables_of a.tables.now in
    let counts = counted_is u a.e f.0 f.1 f.2 f.3 a.crossing.0 c.requires.acceptable _ c.set_time.ensures _ c.count_submit.ensures in
    c.place_order.ensures.answer ∙ submitted u a.e f.0 f.1 f.2 f.3 _ counts _ (rw c.head.ensures at (c.order_of-o.ensures u))
