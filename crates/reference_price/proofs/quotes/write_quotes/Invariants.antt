use mathlib.Core.Path.{◌≡◌}
use mathlib.Core.List.{map}
use Prim.Native.Nat.{ℕ, ◌-◌, ◌<◌}
use lib.ListN.{length, get_or}
use Rattle.arith.specs.Lists.{from}
use Rattle.rules.specs.Ranges.{contract_count}
use Rattle.rules.specs.Ledger.{order_at}
use Rattle.reference_price.specs.Columns.{best_price}
use Rattle.reference_price.proofs.quotes.write_quotes.Given as goal

abbrev pub invariant-loop-i : goal.invariant-loop-i
invariant-loop-i l = (length l.quotes ≡ contract_count)
    × ((c : ℕ) → c < contract_count → get_or l.quotes c 0 ≡ best_price l.day.0 l.time l.side (map (order_at l.book) (from l.i (l.count - l.i))) c)
