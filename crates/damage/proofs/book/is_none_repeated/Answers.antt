use Rattle.std.proofs.Common.{map}
use native.Mathlib.Nat.{sub-zero}
use Rattle.arith.specs.Lists.{from}
use Rattle.rules.specs.Refusals.{distinct}
use Rattle.damage.specs.Orders.{number_at}
use Rattle.damage.proofs.Numbers.{distinct_next, distinct_end}
use Rattle.damage.proofs.book.is_none_repeated.Goals as goal

pub loop-i-init : goal.loop-i-init
loop-i-init c = rw (sub-zero c.args.count)

pub loop-i-preserved : goal.loop-i-preserved
loop-i-preserved c =
    let a = c.args in
    rw c.is_repeated.ensures
    (distinct_next (number_at a.book.now) a.count c.loop-i.i c.loop-i.ok (distinct (map (number_at a.book.now) (from 0 a.count))) c.loop-i.invariant
    c.loop-i-test.true)

pub returns : goal.returns
returns c =
    let a = c.args in
    distinct_end (number_at a.book.now) a.count c.loop-i.i c.loop-i.ok (distinct (map (number_at a.book.now) (from 0 a.count))) c.loop-i.invariant
    c.loop-i-test.false
