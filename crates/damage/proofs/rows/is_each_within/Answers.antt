use Rattle.std.proofs.Common.{◌≡◌, ◌+◌, ◌-◌, ◌*◌, leb, take, drop, nat_abs, refl, arith, take-take}
use Rattle.arith.specs.Lists.{every}
use Rattle.rules.specs.Ledger.{row_width}
use Rattle.rules.specs.Ranges.{contract_count}
use Rattle.rules.specs.Refusals.{every_row}
use Rattle.arith.proofs.Scans.{block_next, block_end}
use Rattle.damage.proofs.rows.is_each_within.Goals as goal

pub loop-contract-init : goal.loop-contract-init
unfolding every_row
loop-contract-init c = refl

pub loop-contract-preserved : goal.loop-contract-preserved
loop-contract-preserved c =
    let a = c.args in
    let cut : c.loop-contract.contract * row_width + a.n - c.loop-contract.contract * row_width ≡ a.n = omega arith in
    rw (c.are_within-ok.ensures, cut, ← take-take a.n 32 (drop (c.loop-contract.contract * row_width) a.rows.now) (omega arith))
    (block_next 32 (λ block. every (λ z. leb (nat_abs z) a.bound) (take a.n block)) contract_count a.rows.now c.loop-contract.contract c.loop-contract.ok
    (every_row (λ z. leb (nat_abs z) a.bound) a.n a.rows.now) c.loop-contract.invariant c.loop-contract-test.true)

pub returns : goal.returns
returns c =
    let a = c.args in
    block_end 32 (λ block. every (λ z. leb (nat_abs z) a.bound) (take a.n block)) contract_count a.rows.now c.loop-contract.contract c.loop-contract.ok
    (every_row (λ z. leb (nat_abs z) a.bound) a.n a.rows.now) c.loop-contract.invariant c.loop-contract-test.false
