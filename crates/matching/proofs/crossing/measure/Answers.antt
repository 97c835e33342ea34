use Rattle.matching.proofs.Passes.{measuring_start, measuring_next}
use mathlib.Core.Path.{◌≡◌}
use native.Mathlib.Omega.{arith}
use Rattle.matching.proofs.crossing.measure.Goals as goal

pub loop-i-init : goal.loop-i-init
loop-i-init c = measuring_start _ _

pub overflow_add-own : goal.overflow_add-own
overflow_add-own c =
    let m = measuring_next _ _ _ _ _ c.loop-i.invariant _ c.order_at.ensures (c.requires.by_index _ c.loop-i-test.true) _ _ c.found_in-found.ensures in
    omega (arith, m.own_few)

pub overflow_add-lots : goal.overflow_add-lots
overflow_add-lots c =
    let m = measuring_next _ _ _ _ _ c.loop-i.invariant _ c.order_at.ensures (c.requires.by_index _ c.loop-i-test.true) _ _ c.found_in-found.ensures in
    omega (arith, m.crossing_few)

pub loop-i-preserved : goal.loop-i-preserved
loop-i-preserved c =
    measuring_next _ _ _ _ _ c.loop-i.invariant _ c.order_at.ensures (c.requires.by_index _ c.loop-i-test.true) _ _ c.found_in-found.ensures

pub returns : goal.returns
returns c =
    let same : c.loop-i.i ≡ c.args.count = omega arith in
    record { own_value = rw same at c.loop-i.invariant.own_lots_holds; own_bound = omega (arith, same, c.loop-i.invariant.own_few); lots_value = rw same at c.loop-i.invariant.crossing_lots_holds }
