use Rattle.std.proofs.Common.{◌+◌, ◌*◌, ◌^◌, ◌<◌, ltb, get_or, pos, arith}
use Rattle.rules.specs.Ledger.{row_width}
use Rattle.rules.specs.Ranges.{contract_count}
use Rattle.arith.specs.Bits.{in_window}
use Rattle.arith.proofs.Bits.{or_window, none_below}
use lib.Signed.{mag}
use Rattle.arith.proofs.Signed.{back_mag}
use Rattle.arith.proofs.Scans.{block_next, block_end}
use Rattle.arith.proofs.Rows.{place_at}
use Rattle.damage.specs.Windows.{every_column}
use Rattle.damage.proofs.rows.or_of_column.Goals as goal

pub loop-contract-init : goal.loop-contract-init
unfolding every_column
loop-contract-init c = λ k h. rw (none_below k)

pub loop-contract-preserved : goal.loop-contract-preserved
loop-contract-preserved c =
    let a = c.args in
    let x = get_or a.rows.now (c.loop-contract.contract * row_width + a.member) (pos 0) in
    let fits : mag x < 2 ^ 63 = omega arith in
    λ k h. rw (
      or_window k c.loop-contract.seen c.raised-seen.result a.half x h fits (rw (back_mag x fits) at c.raised-seen.ensures),
      ← place_at a.rows.now (pos 0) 32 c.loop-contract.contract a.member (omega arith),
    )
    (block_next 32 (λ rows. in_window (2 ^ k) (get_or rows a.member (pos 0))) contract_count a.rows.now c.loop-contract.contract (ltb c.loop-contract.seen (2 ^ k))
    (every_column (in_window (2 ^ k)) a.member a.rows.now) (c.loop-contract.invariant k h) c.loop-contract-test.true)

pub returns : goal.returns
returns c =
    let a = c.args in
    λ k h. block_end 32 (λ rows. in_window (2 ^ k) (get_or rows a.member (pos 0))) contract_count a.rows.now c.loop-contract.contract (ltb c.loop-contract.seen (2 ^ k))
    (every_column (in_window (2 ^ k)) a.member a.rows.now) (c.loop-contract.invariant k h) c.loop-contract-test.false
