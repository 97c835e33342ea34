use native.Mathlib.Omega.{arith}
use native.Mathlib.Numerals.{add-one}
use mathlib.Core.Path.{◌≡◌, refl, ◌∙◌}
use Prim.Native.Nat.{◌*◌}
use lib.IntN.{pos}
use lib.ListN.{take, drop, replicate, length-replicate}
use Rattle.arith.specs.Lists.{over, in_each_block}
use Rattle.arith.proofs.Overs.{over_length}
use Rattle.rules.specs.Ledger.{row_width}
use Rattle.rules.specs.Ledger.{fresh_rows}
use Rattle.rules.specs.Ranges.{contract_count}
use Rattle.arith.proofs.Writes.{filled, over_front, block_written}
use Rattle.fresh.proofs.write_rows.Goals as goal

pub loop-contract-init : goal.loop-contract-init
unfolding in_each_block
loop-contract-init c = refl

pub loop-contract-preserved : goal.loop-contract-preserved
loop-contract-preserved c =
    let d = c.args.rows.now in
    let n = c.args.members in
    let l = c.loop-contract in
    let zeros = replicate n (pos 0) in
    let count = length-replicate n (pos 0) in
    let step = filled (l.contract * row_width) n l.rows (pos 0) (omega arith) in
    rw (c.clear_rows.ensures, step, l.invariant, add-one l.contract)
    (block_written 32 (over 0 zeros) (λ x e. over_length 0 zeros x (omega arith) ∙ e) zeros l.contract d (over_front zeros (take 32 (drop (l.contract * row_width) d)))
    (omega arith) (omega arith))

pub returns : goal.returns
unfolding fresh_rows
returns c = let l = c.loop-contract in let e : l.contract ≡ contract_count = omega arith in rw e at l.invariant
