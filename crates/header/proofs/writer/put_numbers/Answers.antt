use Prim.Native.Nat.{◌*◌, ◌≤◌}
use mathlib.Core.Path.{◌≡◌, refl}
use native.Mathlib.Nat.{mul-le-mul_left}
use native.Mathlib.Omega.{arith}
use lib.ListN.{length, get_or}
use Rattle.rules.specs.Fields.{number_bytes}
use Rattle.arith.proofs.Runs.{run_of}
use Rattle.arith.proofs.Widths.{blocks_none, blocks_next}
use Rattle.big_endian.proofs.Widths.{number_wide}
use Rattle.header.proofs.writer.put_numbers.Goals as goal

pub loop-i-init : goal.loop-i-init
loop-i-init c =
    let a = c.args in
    blocks_none (number_bytes a.width) a.width (number_wide c.requires.room.0) (λ j. get_or a.list.now j 0) a.at _

pub loop-i-preserved : goal.loop-i-preserved
loop-i-preserved c =
    let a = c.args in
    let i = c.loop-i.i in
    let before : a.width * i ≤ a.width * length a.list.now = mul-le-mul_left a.width (omega arith) in
    blocks_next (number_bytes a.width) a.width (number_wide c.requires.room.0) (λ j. get_or a.list.now j 0) a.at i _ _ _ _ refl c.loop-i.invariant c.put_number.ensures (omega arith)

pub returns : goal.returns
returns c =
    let all : c.loop-i.i ≡ length c.args.list.now = omega arith in
    rw (← run_of (λ j. get_or c.args.list.now j 0) c.args.list.now 0 (λ i h. refl), ← all) c.loop-i.invariant
