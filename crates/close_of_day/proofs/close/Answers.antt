use mathlib.Core.Bool.{not}
use mathlib.Core.Path.{ap, ◌∙◌}
use native.Mathlib.Omega.{arith}
use lib.ListN.{get_or, length}
use lib.Seq.{get_or-set_other}
use Rattle.std.proofs.lemmas.List.{map-id}
use Rattle.arith.specs.Lists.{kept}
use Rattle.rules.specs.Ledger.{members_place, order_count_place}
use Rattle.rules.specs.Ledger.{zero_tables, with_head, with_prices, with_rows, with_book, with_orders, orders}
use Rattle.rules.specs.CloseOfDay.{all_cascaded, on_day}
use Rattle.tables.specs.Fit.{orders_in}
use Rattle.contract_phases.specs.Phases.{closes, closing}
use Rattle.contract_phases.proofs.Phases.{phases_length}
use Rattle.close_of_day.proofs.Closes.{book_reads, closed_is}
use Rattle.close_of_day.proofs.close.Goals as goal

pub cascade_all-requires : goal.cascade_all-requires
cascade_all-requires c =
    let pre = c.requires in
    let fit = pre.rows_fit.0 in
    let head_fit = pre.head_fit.0 in (
      record { long = fit.long; within = λ x m u k. omega (arith, fit.within x m u k, head_fit.most_run) },
      head_fit.most_members_holds,
      ap length c.write_phases.ensures
          ∙ phases_length _ _,
    )

pub cascade_all-requires-2 : goal.cascade_all-requires-2
cascade_all-requires-2 c =
    let pre = c.requires in
    let fit = pre.rows_fit.1 in
    let head_fit = pre.head_fit.0 in (
      record { long = fit.long; within = λ x m u k. omega (arith, fit.within x m u k, head_fit.most_run) },
      head_fit.most_members_holds,
      ap length c.write_phases.ensures
          ∙ phases_length _ _,
    )

pub remove_closing-requires : goal.remove_closing-requires
remove_closing-requires c =
    let pre = c.requires in
    let a = c.args in
    (pre.head_fit.0.long, book_reads a.head.now a.book.now pre.head_fit.0 pre.head_fit.2)

pub begin_day-requires : goal.begin_day-requires
unfolding with_orders
begin_day-requires c =
    let pre = c.requires in
    let a = c.args in
    let u = with_head a.head.now (with_book a.book.now zero_tables) in
    let same = ap (λ t. get_or t.head members_place 0) (c.remove_closing.ensures u) ∙ get_or-set_other a.head.now 7 1 _ 0 (λ e. omega arith) in
    (omega (arith, c.remove_closing.auto.head, pre.head_fit.0.long), omega (arith, same, pre.head_fit.0.most_members_holds))

pub returns : goal.returns
unfolding orders
returns c =
    let pre = c.requires in
    let a = c.args in
    let prices = c.write_prices.new.prices in
    let lots = c.cascade_all.new.rows in
    let value = c.cascade_all-2.new.rows in
    let book = c.remove_closing.new.book in
    let n = get_or a.head.now members_place 0 in
    λ t.
    let u = with_head a.head.now (with_prices a.prices.now (with_rows a.lots.now a.value.now (with_book a.book.now t))) in
    let column = c.write_phases.ensures in
    let read = map-id c.write_phases.new.column ∙ column in
    c.begin_day.ensures (with_prices prices (with_rows lots value (with_book book t)))
    ∙ ap (on_day a.next.0) (c.remove_closing.ensures (with_prices prices (with_rows lots value t))
    ∙ ap (λ k. with_orders (kept (λ o. not (closes k o.contract)) (orders_in (get_or a.head.now order_count_place 0) a.book.now)) (with_prices prices (with_rows lots value u))) column)
    ∙ closed_is u a.time a.next.0 prices lots value
    (ap (λ x. x.prices) (c.write_prices.ensures (with_rows a.lots.now a.value.now t)))
    (c.cascade_all.ensures ∙ ap (λ k. all_cascaded n (closing k) a.lots.now) read)
    (c.cascade_all-2.ensures ∙ ap (λ k. all_cascaded n (closing k) a.value.now) read)
