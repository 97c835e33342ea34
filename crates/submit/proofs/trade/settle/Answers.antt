use native.Mathlib.Omega.{arith}
use Rattle.submit.proofs.Trading.{matchable, ended, left_most, deals_fit, traded}
use Rattle.submit.proofs.trade.settle.Goals as goal

pub match_orders-m-requires : goal.match_orders-m-requires
match_orders-m-requires c =
    let p = c.requires in (matchable _ _ _ _ p.0 _ p.1, p.2)

pub worth_of-worth-requires : goal.worth_of-worth-requires
worth_of-worth-requires c =
    let p = c.requires in
    deals_fit _ _ _ _ p.0 _ _ _ _ _ p.1 c.match_orders-m.auto.deals p.2 c.match_orders-m.ensures

pub overflow_sub-dealt : goal.overflow_sub-dealt
overflow_sub-dealt c =
    let p = c.requires in
    left_most _ _ _ _ p.0 _ _ _ _ _ p.1 c.match_orders-m.auto.deals p.2 c.match_orders-m.ensures

pub add_dealt-requires : goal.add_dealt-requires
add_dealt-requires c =
    let x = c.requires.0 in
    record { prices_length_in_bounds = (x.prices_long, x.contract_below); lots_bound = (omega (arith, x.most_day_lots, x.most_lots_holds), omega (arith, x.most_day_value, c.worth_of-worth.ensures.1)) }

pub keep_orders-requires : goal.keep_orders-requires
keep_orders-requires c =
    let x = c.requires.0 in
    record { head_length_in_bounds = (x.head_long, x.book_long, x.most_orders_holds, omega (arith, c.match_orders-m.auto.left, c.requires.1)); by_index = x.most_side }

pub returns : goal.returns
returns c =
    let p = c.requires in
    let long = c.match_orders-m.auto.deals in
    let made = c.match_orders-m.ensures in
    let worth = c.worth_of-worth.ensures.0 in record { traded = traded _ _ _ _ p.0 _ _ _ _ _ p.1 long p.2 made _ _ _ _ worth c.add_dealt.ensures c.keep_orders.ensures; deal_column_fit = deals_fit _ _ _ _ p.0 _ _ _ _ _ p.1 long p.2 made; book_value = (ended _ _ _ _ p.0 _ _ _ _ _ p.1 long p.2 made).resting }
