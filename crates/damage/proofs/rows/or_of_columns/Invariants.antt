use Rattle.std.proofs.Common.{◌≡◌, ℕ, ◌*◌, ◌^◌, ltb}
use Rattle.arith.specs.Bits.{in_window}
use Rattle.rules.specs.Refusals.{every_row}
use Rattle.damage.specs.Windows.{IsHalf}
use Rattle.damage.proofs.rows.or_of_columns.Given as goal

abbrev pub invariant-loop-pair : goal.invariant-loop-pair
invariant-loop-pair l = (k : ℕ) → IsHalf l.half k → ltb l.seen (2 ^ k) ≡ every_row (in_window (2 ^ k)) (2 * l.pair) l.rows
