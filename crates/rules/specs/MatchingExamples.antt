-- Document 01, "Matching" and the causes of a submit: what is accepted beside what is refused, computed.
use Rattle.std.specs.Prelude.{refl, [], ◌∷◌, pos}
use Rattle.rules.specs.declared.event.OrderKind.TheVariants.{Resting}
use Rattle.rules.specs.declared.order.Side.TheVariants.{Buy, Sell}
use Rattle.rules.specs.Ledger.{Tables, with_time, with_accepted_submits, with_lots_run, with_submits_this_second, with_orders}
use Rattle.rules.specs.Computed.{computed}
use Rattle.rules.specs.ExampleRecords.{submit, buy, sell, made, in_head, held, order, bought, accepted, refused, EachPrints}

-- Monday at 36000 s, limits of 5 lots: member 0 holds 3 lots of contract 17, and its order to sell one rests; member 1 has
-- five submits in this second.
abbrev submitting : Tables
submitting =
    held ((0, 17, pos 3) ∷ [])
    (in_head (with_lots_run 3)
    (in_head (with_submits_this_second 1 5)
    (in_head (with_accepted_submits 6)
    (in_head (with_time 36000) (with_orders (order 0 0 17 Sell 26000 1 369 0 ∷ []) (made 2021 369 [] (5 ∷ 5 ∷ [])))))))

-- Member 0 meets its own order; beside it 7 lots may be sold, and not 8. Member 1's sixth submit is 8; the next second begins
-- at none.
submits : EachPrints submitting
    ((buy 0 17 26000 1, accepted (bought 0 0 17 1 26000))
    ∷ (sell 0 17 27000 7, accepted [])
    ∷ (sell 0 17 27000 8, refused 9)
    ∷ (buy 1 17 25000 1, refused 8)
    ∷ (submit 36001 Resting Buy 1 17 25000 1, accepted [])
    ∷ [])
unfolding computed held
submits = refl
