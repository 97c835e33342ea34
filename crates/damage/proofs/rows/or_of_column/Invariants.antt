use Rattle.std.proofs.Common.{◌≡◌, ℕ, ◌-◌, ◌*◌, ◌^◌, ◌&&◌, ltb, get_or, drop, pos}
use Rattle.rules.specs.Ledger.{row_width}
use Rattle.rules.specs.Ranges.{contract_count}
use Rattle.arith.specs.Bits.{in_window}
use Rattle.arith.specs.Lists.{every_block}
use Rattle.damage.specs.Windows.{every_column, IsHalf}
use Rattle.damage.proofs.rows.or_of_column.Given as goal

abbrev pub invariant-loop-contract : goal.invariant-loop-contract
invariant-loop-contract l = (k : ℕ) → IsHalf l.half k → ltb l.seen (2 ^ k) && every_block 32 (λ rows. in_window (2 ^ k) (get_or rows l.member (pos 0))) (contract_count - l.contract) (drop (l.contract * row_width) l.rows) ≡ every_column
    (in_window (2 ^ k)) l.member l.rows
