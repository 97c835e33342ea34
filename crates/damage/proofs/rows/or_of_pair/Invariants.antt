use Rattle.std.proofs.Common.{◌≡◌, ℕ, ◌-◌, ◌*◌, ◌^◌, ◌&&◌, ltb, drop}
use Rattle.rules.specs.Ledger.{row_width}
use Rattle.rules.specs.Ranges.{contract_count}
use Rattle.arith.specs.Lists.{every_block}
use Rattle.damage.specs.Windows.{IsHalf}
use Rattle.damage.proofs.Columns.{both_in}
use Rattle.damage.proofs.rows.or_of_pair.Given as goal

abbrev pub invariant-loop-contract : goal.invariant-loop-contract
invariant-loop-contract l = (k : ℕ) → IsHalf l.half k → ltb l.seen (2 ^ k) && every_block 32 (both_in (2 ^ k) l.member) (contract_count - l.contract) (drop (l.contract * row_width) l.rows) ≡ every_block 32
    (both_in (2 ^ k) l.member) contract_count l.rows
