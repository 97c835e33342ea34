use mathlib.Core.Path.{◌≡◌}
use lib.IntN.{pos}
use lib.ListN.{replicate}
use Rattle.arith.specs.Lists.{over, in_each_block}
use Rattle.fresh.proofs.write_rows.Given as goal

abbrev pub invariant-loop-contract : goal.invariant-loop-contract
invariant-loop-contract l = l.rows ≡ in_each_block 32 (over 0 (replicate l.members (pos 0))) l.contract l.initial.rows
