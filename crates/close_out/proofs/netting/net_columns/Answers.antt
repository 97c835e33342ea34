use Rattle.close_out.proofs.StepColumns.{netting_count, netting_tables, netting_room, given_fits}
use Rattle.deal_lines.proofs.Takes.{less_room}
use Rattle.close_out.proofs.netting.net_columns.Goals as goal

pub book_changes-count-requires-clause-bookable : goal.book_changes-count-requires-clause-bookable
book_changes-count-requires-clause-bookable c =
    less_room _ _ (netting_room 0 0 _ _ _ _ _ c.give_up.ensures c.give_up-2.ensures) c.requires.bookable

pub subtract-requires : goal.subtract-requires
subtract-requires c =
    given_fits _ _ _ c.give_up.ensures

pub subtract-requires-2 : goal.subtract-requires-2
subtract-requires-2 c =
    given_fits _ _ _ c.give_up-2.ensures

pub returns-clause-value : goal.returns-clause-value
returns-clause-value c =
    netting_count c.args.contract c.args.price.0 _ _ _ _ _ c.give_up.ensures c.give_up-2.ensures _ c.book_changes-count.ensures.value

pub returns-clause-t_after : goal.returns-clause-t_after
returns-clause-t_after c =
    λ t. netting_tables c.args.contract c.args.price.0 _ _ _ _ _ c.give_up.ensures c.give_up-2.ensures _ _ (c.book_changes-count.ensures.t_after t)
