use Rattle.std.proofs.Common.{◌≡◌, ℕ, ◌^◌, ◌&&◌, ltb, drop}
use Rattle.arith.specs.Bits.{in_window}
use Rattle.arith.specs.Lists.{every}
use Rattle.damage.specs.Windows.{IsHalf}
use Rattle.damage.proofs.rows.or_of.Given as goal

abbrev pub invariant-loop-x : goal.invariant-loop-x
invariant-loop-x l = (k : ℕ) → IsHalf l.half k → ltb l.seen (2 ^ k) && every (in_window (2 ^ k)) (drop l.x-index l.rows) ≡ every (in_window (2 ^ k)) l.rows
