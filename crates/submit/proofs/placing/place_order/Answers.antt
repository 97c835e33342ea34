use mathlib.Core.Path.{sym, ◌∙◌}
use Rattle.submit.proofs.OrderBooked.{room, rested}
use Rattle.submit.proofs.placing.place_order.Goals as goal

pub rest_order-requires : goal.rest_order-requires
rest_order-requires c =
    let p = c.requires.0 in
    (p.tradable.head_long, p.tradable.book_long, room _ _ _ p (sym c.requires.1 ∙ c.if-crossing-eq0.true))

pub returns-then-crossing-eq0-clause-answer : goal.returns-then-crossing-eq0-clause-answer
returns-then-crossing-eq0-clause-answer c =
    let r = c.rest_order.ensures in
    rested _ _ _ c.requires.0 (sym c.requires.1 ∙ c.if-crossing-eq0.true) _ _ r.head_after r.book_after
