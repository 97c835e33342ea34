-- Document 01, cause 11, computed: it stands apart from the other examples because 256 orders take seconds to read.
use Rattle.std.specs.Prelude.{refl, [], ◌∷◌, map}
use Rattle.arith.specs.Lists.{from}
use Rattle.rules.specs.declared.order.Side.TheVariants.{Sell}
use Rattle.rules.specs.Ledger.{Tables, with_accepted_submits, with_orders}
use Rattle.rules.specs.Computed.{computed}
use Rattle.rules.specs.ExampleRecords.{buy, monday, in_head, order, bought, accepted, refused, EachPrints}

-- 256 sells of the first quarter of 2022 rest, one of them at 30000.
full_book : Tables
full_book =
    with_orders (order 0 1 18 Sell 30000 2 369 0 ∷ map (λ n. order n 1 18 Sell 31000 1 369 0) (from 1 255)) (in_head (with_accepted_submits 256) monday)

-- A buy that would rest is 11. One of which nothing is left is accepted, and so is one that uses up an order and takes its place.
book_full : EachPrints full_book
    ((buy 0 18 29999 1, refused 11)
    ∷ (buy 0 18 30000 1, accepted (bought 0 1 18 1 30000))
    ∷ (buy 0 18 30000 3, accepted (bought 0 1 18 2 30000))
    ∷ [])
unfolding computed full_book
book_full = refl

-- 11 before 17.
book_full_first : EachPrints (in_head (with_accepted_submits 4000000000) full_book) ((buy 0 18 29999 1, refused 11) ∷ [])
unfolding computed full_book
book_full_first = refl
