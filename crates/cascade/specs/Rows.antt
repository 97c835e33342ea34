-- How large a row of an undamaged table can be.
use Rattle.std.specs.Prelude.{ℕ, ◌*◌}
use Rattle.rules.specs.Ranges.{most_price, most_lots_run}

-- No row passes this, of lots or of value.
abbrev pub most_row : ℕ
most_row = most_price * most_lots_run
