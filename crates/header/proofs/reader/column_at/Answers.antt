use Prim.Native.Nat.{◌+◌, ◌-◌, ◌*◌}
use mathlib.Core.Path.{◌≡◌}
use native.Mathlib.Omega.{arith}
use Rattle.arith.specs.Lists.{from}
use Rattle.rules.specs.Fields.{number_at}
use Rattle.arith.specs.Columns.{padded}
use Rattle.arith.proofs.Padded.{column_filled}
use Rattle.header.proofs.reader.column_at.Goals as goal

pub loop-i-init : goal.loop-i-init
unfolding padded from
loop-i-init g c = let whole : g.row.PLACES - 0 ≡ g.row.PLACES = omega arith in rw whole

pub loop-i-preserved : goal.loop-i-preserved
loop-i-preserved g c =
    let a = c.args in
    let loop = c.loop-i in
    column_filled (λ j. number_at a.bytes.now (a.at + a.width * j) a.width) g.row.PLACES loop.i (omega arith) c.number_at.ensures loop.invariant

pub returns : goal.returns
returns g c = let all : c.loop-i.i ≡ c.args.count = omega arith in rw (← all) c.loop-i.invariant
