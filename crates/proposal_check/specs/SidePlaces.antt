-- Columns with two places for each contract: its buys, its sells.
use Rattle.std.specs.Prelude.{ℕ, ◌+◌, ◌*◌}
use Rattle.rules.specs.declared.order.Order.{Order}
use Rattle.rules.specs.declared.order.Side.{Side}
use Rattle.rules.specs.Ranges.{contract_count}
use Rattle.rules.specs.Sides.{side_number}

abbrev pub side_place : ℕ → Side → ℕ
side_place c s = c * 2 + side_number s

abbrev pub side_places : ℕ
side_places = contract_count * 2

-- The place of the order's contract and side.
abbrev pub side_place_of : Order → ℕ
side_place_of o = side_place o.contract o.side
