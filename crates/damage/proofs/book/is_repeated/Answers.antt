use Rattle.std.proofs.Common.{suc, ◌-◌, eqb, map, add-one}
use Rattle.arith.specs.Lists.{any, from}
use Rattle.damage.specs.Orders.{number_at}
use Rattle.arith.proofs.Scans.{some_next, some_end}
use Rattle.damage.proofs.book.is_repeated.Goals as goal

pub loop-j-init : goal.loop-j-init
loop-j-init c = rw (add-one c.args.i)

pub loop-j-preserved : goal.loop-j-preserved
loop-j-preserved c =
    let a = c.args in
    some_next (number_at a.book.now) (eqb (number_at a.book.now a.i)) a.count c.loop-j.j c.loop-j.found
    (any (eqb (number_at a.book.now a.i)) (map (number_at a.book.now) (from (suc a.i) (a.count - suc a.i)))) c.loop-j.invariant c.loop-j-test.true

pub returns : goal.returns
returns c =
    let a = c.args in
    some_end (number_at a.book.now) (eqb (number_at a.book.now a.i)) a.count c.loop-j.j c.loop-j.found
    (any (eqb (number_at a.book.now a.i)) (map (number_at a.book.now) (from (suc a.i) (a.count - suc a.i)))) c.loop-j.invariant c.loop-j-test.false
