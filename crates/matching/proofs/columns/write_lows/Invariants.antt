use Prim.Native.Nat.{ℕ, ◌*◌, ◌<◌}
use lib.ListN.{get_or}
use Rattle.matching.specs.Ranks.{LowestAmong, block_size}
use Rattle.matching.proofs.columns.write_lows.Given as goal

abbrev pub invariant-loop-b : goal.invariant-loop-b
invariant-loop-b l = (c : ℕ) → c < l.b → LowestAmong l.ranks (c * block_size) block_size (get_or l.lows c 0)
