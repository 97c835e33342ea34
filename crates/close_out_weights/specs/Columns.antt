-- Columns with one number for each member, read from the lent tables.
use Rattle.std.specs.Prelude.{ℕ, ◌*◌, Bool, cond, List, get_or, ℤ, pos, nat_abs}
use Rattle.arith.specs.Ints.{up, dn}
use Rattle.arith.specs.Lists.{from, total}
use Rattle.rules.specs.Default.{by_member, open_weight}
use Rattle.rules.specs.Ledger.{Tables, defaulted, lots_at, row_place}
use Rattle.close_out_weights.specs.declared.columns.Part.{Part}
use Rattle.close_out_weights.specs.declared.columns.Part.TheVariants.{DefaultedLongs, DefaultedShorts, Others}

-- What of a member's net lots is in a part.
abbrev pub lots_in : Part → Bool → ℤ → ℕ
lots_in DefaultedLongs marked net = cond marked (up net) 0
lots_in DefaultedShorts marked net = cond marked (dn net) 0
lots_in Others marked net = cond marked 0 (nat_abs net)

unfoldable pub column_of : Part → Tables → ℕ → List ℕ
column_of part t c = by_member t (λ m. lots_in part (defaulted t m) (lots_at t c m))

-- Days times absolute lots of a member over the first n contracts.
unfoldable pub weight_by : ℕ → List ℕ → List ℤ → ℕ → ℕ
weight_by n days lots m = total (λ c. get_or days c 0 * nat_abs (get_or lots (row_place c m) (pos 0))) (from 0 n)

-- Each other member's sum over open contracts of days times absolute lots.
unfoldable pub days_weights : Tables → List ℕ
days_weights t = by_member t (λ m. cond (defaulted t m) 0 (open_weight t m))
