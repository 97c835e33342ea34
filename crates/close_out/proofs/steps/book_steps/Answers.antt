use native.Mathlib.Omega.{arith}
use Rattle.rules.specs.Ledger.{Tables}
use Rattle.close_out.proofs.Running.{put, blank}
use Rattle.close_out.proofs.StepBooking.{remaining_column, second_requires, takers_requires, finish, done}
use Rattle.close_out.proofs.steps.book_steps.Goals as goal

pub book_changes-second-requires : goal.book_changes-second-requires
book_changes-second-requires c =
    let pre = c.requires in
    let a = c.args in
    let n = c.book_netting-first.ensures in
    let u = put a.head.now a.lots.now a.value.now a.lines.now blank in
    let all =
    second_requires a.contract a.price.0 a.netted a.remaining a.longs.now a.shorts.now a.weights.now pre.bookable.1 pre.bookable.2 u pre.bookable.0 pre.dealable
    _ _ _ _ n.value n.longs_after n.shorts_after (n.t_after blank) in
    record { bookable = all.0; gains_bound = all.1.0; gains_len = all.1.1 }

pub returns-then-remaining-eq0 : goal.returns-then-remaining-eq0
returns-then-remaining-eq0 c =
    let pre = c.requires in
    let a = c.args in
    let n = c.book_netting-first.ensures in
    let b = c.book_changes-second.ensures in
    let u : Tables → Tables = put a.head.now a.lots.now a.value.now a.lines.now in
    let all = λ (t : Tables).
    done a.contract a.price.0 a.netted a.remaining a.longs.now a.shorts.now a.weights.now pre.bookable.1 pre.bookable.2 (u t) pre.bookable.0 pre.dealable
    _ _ _ _ n.value n.longs_after n.shorts_after (n.t_after t) _ _ b.value (b.t_after t) c.if-remaining-eq0.true in
    record { value = (all blank).0; longs_after = n.longs_after; shorts_after = n.shorts_after; t_after = λ t. (all t).1 }

pub sum_of-long-requires : goal.sum_of-long-requires
sum_of-long-requires c =
    let pre = c.requires in
    remaining_column _ _ _ c.book_netting-first.ensures.longs_after pre.dealable.longs_column

pub book_takers-requires : goal.book_takers-requires
book_takers-requires c =
    let pre = c.requires in
    let a = c.args in
    let n = c.book_netting-first.ensures in
    let b = c.book_changes-second.ensures in
    let u = put a.head.now a.lots.now a.value.now a.lines.now blank in
    let all =
    takers_requires a.contract a.price.0 a.netted a.remaining a.longs.now a.shorts.now a.weights.now pre.bookable.1 pre.bookable.2 u pre.bookable.0 pre.dealable
    _ _ _ _ n.value n.longs_after n.shorts_after (n.t_after blank) _ _ b.value (b.t_after blank) (omega (arith, c.if-remaining-eq0.false)) in
    record { bookable = all.0; contract_lt_contract_count = all.1 }

pub returns : goal.returns
returns c =
    let pre = c.requires in
    let a = c.args in
    let n = c.book_netting-first.ensures in
    let b = c.book_changes-second.ensures in
    let k = c.book_takers.ensures in
    let u : Tables → Tables = put a.head.now a.lots.now a.value.now a.lines.now in
    let all = λ (t : Tables).
    finish a.contract a.price.0 a.netted a.remaining a.longs.now a.shorts.now a.weights.now pre.bookable.1 pre.bookable.2 (u t) pre.bookable.0 pre.dealable
    _ _ _ _ n.value n.longs_after n.shorts_after (n.t_after t) _ _ b.value (b.t_after t) _ c.sum_of-long.ensures _ _ k.value (k.t_after t) in
    record { value = (all blank).0; longs_after = n.longs_after; shorts_after = n.shorts_after; t_after = λ t. (all t).1 }
