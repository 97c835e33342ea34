-- What an accepted close of day leaves.
use Rattle.std.specs.Prelude.{ℕ}
use Rattle.rules.specs.Ledger.{Tables}
use Rattle.rules.specs.CloseOfDay.{priced, closing_contracts, with_closed, on_day}

-- The tables after an accepted close, on day d.
unfoldable pub closed : ℕ → ℕ → Tables → Tables
closed s d t = on_day d (with_closed (closing_contracts t) (priced s t))
