-- A deal line as code hands it over, and the tables with one more line booked.
use Rattle.std.specs.Prelude.{ℕ, ◌+◌, ◌*◌, ◌≤◌, ◌<◌, List, [], ◌∷◌, nat_abs}
use Rattle.arith.specs.Lists.{over}
use Rattle.rules.specs.Ranges.{contract_count, most_price}
use Rattle.rules.specs.Ledger.{Tables, Line, with_head, with_rows, with_lines, with_lots_run, lots_run, line_width, line_places, line_lots, line_value, posted}
use Rattle.rules.specs.Sides.{signed}
use Rattle.deal_lines.specs.declared.lines.DealLine.{DealLine}
use Rattle.tables.specs.Fit.{members_in}

abbrev pub line_of : DealLine → Line
line_of l = record { member = l.member; contract = l.contract; lots = signed l.side l.lots.0; price = l.price.0 }

-- A line of one of the ledger's members and contracts, at no more than the highest price.
pub record LineFit (head : List ℕ) (l : Line) : Type 0 where
  pub member_below : l.member < members_in head
  pub contract_below : l.contract < contract_count
  pub most_price_holds : l.price ≤ most_price

-- Line i printed, added to its row and counted in the lots run.
unfoldable pub with_line : ℕ → Line → Tables → Tables
with_line i l t =
    with_lines (over (i * line_width) (line_places l) t.lines)
    (with_rows (posted line_lots (l ∷ []) t.lots) (posted line_value (l ∷ []) t.value) (with_head (with_lots_run (lots_run t + nat_abs l.lots) t.head) t))
