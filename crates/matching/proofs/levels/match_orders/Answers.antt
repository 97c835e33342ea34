use mathlib.Core.Path.{refl}
use Rattle.matching.proofs.levels.match_orders.Goals as goal

pub write_columns-requires : goal.write_columns-requires
write_columns-requires c =
    let m = c.requires.0 in record { left_len_bound = (m.most_orders_holds, refl, m.long); by_index = λ i h. (m.ranked i h, m.has_lots_holds i h) }

pub match_levels-requires : goal.match_levels-requires
match_levels-requires c =
    rw c.write_columns.auto.left record { cases = c.requires; left_value = (c.write_columns.ensures.left_after_holds, c.write_columns.ensures.placed, c.write_lows.ensures) }

pub returns : goal.returns
returns c =
    rw c.write_columns.auto.left at c.match_levels.ensures
