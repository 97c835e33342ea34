use Rattle.std.proofs.Common.{◌≡◌, ◌+◌, ◌*◌, ◌^◌, ◌<◌, ltb, get_or, pos, ◌∙◌, arith}
use Rattle.rules.specs.Ledger.{row_width}
use Rattle.rules.specs.Ranges.{contract_count}
use Rattle.arith.specs.Bits.{in_window}
use Rattle.arith.specs.Lists.{every_block}
use Rattle.arith.proofs.Bits.{or_windows, none_below}
use lib.Signed.{mag}
use Rattle.arith.proofs.Signed.{back_mag}
use Rattle.arith.proofs.Scans.{block_next, block_end}
use Rattle.arith.proofs.Rows.{place_at, blocks_both}
use Rattle.damage.specs.Windows.{every_column}
use Rattle.damage.proofs.Columns.{both_in}
use Rattle.damage.proofs.rows.or_of_pair.Goals as goal

pub loop-contract-init : goal.loop-contract-init
loop-contract-init c = λ k h. rw (none_below k)

pub loop-contract-preserved : goal.loop-contract-preserved
loop-contract-preserved c =
    let a = c.args in
    let rows = a.rows.now in
    let place = c.loop-contract.contract * row_width + a.member in
    let x = get_or rows place (pos 0) in
    let y = get_or rows (place + 1) (pos 0) in
    let next : place + 1 ≡ c.loop-contract.contract * row_width + (a.member + 1) = omega arith in
    let x_fits : mag x < 2 ^ 63 = omega arith in
    let y_fits : mag y < 2 ^ 63 = omega arith in
    let x-is = rw (back_mag x x_fits) at c.raised-seen.ensures in
    let y-is = rw (back_mag y y_fits) at c.raised-seen-in-loop-contract.ensures in
    λ k h. rw (
      or_windows k c.loop-contract.seen c.raised-seen.result c.raised-seen-in-loop-contract.result a.half x y h x_fits x-is y_fits y-is,
      next,
      ← place_at rows (pos 0) 32 c.loop-contract.contract a.member (omega arith),
      ← place_at rows (pos 0) 32 c.loop-contract.contract (a.member + 1) (omega arith),
    )
    (block_next 32 (both_in (2 ^ k) a.member) contract_count rows c.loop-contract.contract (ltb c.loop-contract.seen (2 ^ k)) (every_block 32 (both_in (2 ^ k) a.member) contract_count rows) (c.loop-contract.invariant k h)
    c.loop-contract-test.true)

pub returns : goal.returns
unfolding every_column
returns c =
    let a = c.args in
    let rows = a.rows.now in
    λ k h. block_end 32 (both_in (2 ^ k) a.member) contract_count rows c.loop-contract.contract (ltb c.loop-contract.seen (2 ^ k)) (every_block 32 (both_in (2 ^ k) a.member) contract_count rows) (c.loop-contract.invariant k h)
    c.loop-contract-test.false
    ∙ blocks_both (λ b. in_window (2 ^ k) (get_or b a.member (pos 0))) (λ b. in_window (2 ^ k) (get_or b (a.member + 1) (pos 0))) 32 contract_count rows
