use Rattle.std.proofs.Common.{◌≡◌, ◌-◌, ◌*◌, ◌&&◌, leb, take, drop, nat_abs}
use Rattle.arith.specs.Lists.{every, every_block}
use Rattle.rules.specs.Ledger.{row_width}
use Rattle.rules.specs.Ranges.{contract_count}
use Rattle.rules.specs.Refusals.{every_row}
use Rattle.damage.proofs.rows.is_each_within.Given as goal

abbrev pub invariant-loop-contract : goal.invariant-loop-contract
invariant-loop-contract l = l.ok && every_block 32 (λ block. every (λ z. leb (nat_abs z) l.bound) (take l.n block)) (contract_count - l.contract) (drop (l.contract * row_width) l.rows) ≡ every_row (λ z. leb (nat_abs z) l.bound) l.n l.rows
