-- Lines booked: none, and the lots run of lines put together. Assumes nothing.
use Prim.Native.Nat.{◌+◌}
use native.Mathlib.Nat.{add-zero}
use mathlib.Core.Path.{◌≡◌}
use mathlib.Core.List.{List, [], ◌++◌, flat_map}
use lib.IntN.{nat_abs}
use lib.ListN.{get_or}
use lib.Seq.{set-get_or}
use Rattle.std.specs.Prelude.{Ok}
use Rattle.arith.specs.Lists.{over, total}
use Rattle.arith.proofs.Totals.{total_append}
use Rattle.rules.specs.Ledger.{Tables, Line, posted, line_run, booked, lots_run_place}

-- An accepted record without lines leaves the tables as they are.
pub booked_none : (t : Tables) → booked [] t ≡ record { answer = Ok 0; after = t }
unfolding booked posted line_run total flat_map over
booked_none t = rw (add-zero (get_or t.head lots_run_place 0), set-get_or t.head lots_run_place 0)

pub run_append : (ls ms : List Line) → line_run (ls ++ ms) ≡ line_run ls + line_run ms
unfolding line_run
run_append ls ms = total_append (λ l. nat_abs l.lots) ls ms
