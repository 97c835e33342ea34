use mathlib.Core.Path.{refl, ap, ◌∙◌}
use Prim.Native.Nat.{◌≤◌}
use lib.ListN.{get_or, length}
use Rattle.std.proofs.lemmas.List.{map-id}
use Rattle.rules.specs.Ranges.{most_price}
use Rattle.rules.specs.Ledger.{order_count_place}
use Rattle.rules.specs.Ledger.{with_head, with_prices, with_book, orders}
use Rattle.rules.specs.CloseOfDay.{priced, without_deals}
use Rattle.order_book.proofs.Left.{all_orders}
use Rattle.contract_phases.specs.Phases.{all_open_in}
use Rattle.reference_price.specs.Columns.{ggfs_from}
use Rattle.contract_phases.proofs.Phases.{phases_length}
use Rattle.reference_price.proofs.BestPrices.{price_most}
use Rattle.close_of_day.proofs.Closes.{book_reads, deals_fit, priced_is}
use borrow.Author.Rules.{rules}
use Rattle.close_of_day.proofs.write_prices.Goals as goal

pub write_quotes-requires : goal.write_quotes-requires
write_quotes-requires c =
    let pre = c.requires in
    let a = c.args in
    (book_reads a.head.now a.book.now pre.head_fit.0 pre.head_fit.2, refl)

pub write_quotes-requires-2 : goal.write_quotes-requires-2
write_quotes-requires-2 c =
    let pre = c.requires in
    let a = c.args in
    (book_reads a.head.now a.book.now pre.head_fit.0 pre.head_fit.2, refl)

pub write_ggfs-requires : goal.write_ggfs-requires
write_ggfs-requires c =
    let pre = c.requires in
    let a = c.args in
    let n = get_or a.head.now order_count_place 0 in
    let most = all_orders (λ o. o.price.0 ≤ most_price) a.book.now n (λ i h. (pre.head_fit.2.order_fit i h).most_price_holds) in (
      deals_fit a.head.now a.prices.now pre.head_fit.0 pre.head_fit.1,
      record { all = search rules; most = λ x h. rw (c.write_quotes.ensures x h) (price_most _ _ _ _ x most) },
      record { all = search rules; most = λ x h. rw (c.write_quotes-2.ensures x h) (price_most _ _ _ _ x most) },
      ap length pre.column_value ∙ phases_length _ _,
    )

pub returns : goal.returns
unfolding priced orders
returns c =
    let pre = c.requires in
    let a = c.args in
    let buys = c.write_quotes.new.quotes in
    let sells = c.write_quotes-2.new.quotes in
    λ t.
    let u = with_head a.head.now (with_prices a.prices.now (with_book a.book.now t)) in
    let least = all_orders (λ o. 1 ≤ o.price.0) a.book.now (get_or a.head.now order_count_place 0) (λ i h. (pre.head_fit.2.order_fit i h).least_price) in
    ap (λ p. with_prices p u)
    (c.clear_deals.ensures ∙ ap without_deals (c.write_ggfs.ensures ∙ ap (λ k. ggfs_from buys sells (all_open_in k) a.prices.now) (map-id a.column.now ∙ pre.column_value))
    ∙ priced_is u a.time buys sells pre.head_fit.1.long least c.write_quotes.ensures c.write_quotes-2.ensures)
