-- What is booked of a proposal, leg by leg.
use Rattle.std.specs.Prelude.{ℕ, zero, suc, ◌-◌, List, map, get_or, set}
use Rattle.arith.specs.Lists.{from}
use Rattle.rules.specs.declared.event.Leg.{Leg}
use Rattle.rules.specs.Ledger.{Line}
use Rattle.rules.specs.Synthetic.{leg_line}
use Rattle.tables.specs.Fit.{orders_in}
use Rattle.proposal_check.specs.Legs.{no_leg, named_at}

-- The line of leg i.
abbrev pub leg_line_at : List ℕ → List ℕ → List Leg → ℕ → Line
leg_line_at book places legs i = leg_line (named_at book places legs i)

-- The lines of the first n legs.
abbrev pub lines_to : List ℕ → List ℕ → List Leg → ℕ → List Line
lines_to book places legs n = map (leg_line_at book places legs) (from 0 n)

-- What is left of each order, in a column of the book's places, once the first n legs have taken their lots.
unfoldable pub left_after : List ℕ → List Leg → ℕ → List ℕ → List ℕ
left_after places legs zero left = left
left_after places legs (suc n) left =
    let before = left_after places legs n left in
    let place = get_or places n 0 in
    set before place (get_or before place 0 - (get_or legs n no_leg).lots.0)

-- The lots of each order.
abbrev pub order_lots : ℕ → List ℕ → List ℕ
order_lots count book = map (λ o. o.lots.0) (orders_in count book)
