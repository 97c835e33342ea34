use mathlib.Core.Path.{◌≡◌}
use native.Mathlib.Omega.{arith}
use native.Mathlib.Nat.{mul-le-mul}
use Rattle.submit.proofs.Kept.{worth_start, worth_next}
use Rattle.submit.proofs.deals.worth_of.Goals as goal

pub loop-k-init : goal.loop-k-init
loop-k-init c = (omega arith, worth_start _)

pub deal_at-d-requires : goal.deal_at-d-requires
deal_at-d-requires c = let f = c.requires in (omega (arith, f.most), f.room)

pub times-worth-requires : goal.times-worth-requires
times-worth-requires c =
    let f = c.requires in rw c.deal_at-d.ensures (omega
    (arith, mul-le-mul (f.most_lots_holds c.loop-k.k (omega arith)) (f.most_price_holds c.loop-k.k (omega arith))))

pub overflow_add-worth : goal.overflow_add-worth
overflow_add-worth c =
    let w = worth_next _ _ _ _ c.requires (omega arith) c.loop-k.invariant.1 _ c.deal_at-d.ensures in omega
    (arith, w.most, c.requires.most, c.times-worth.ensures)

pub loop-k-preserved : goal.loop-k-preserved
loop-k-preserved c =
    (omega arith, rw c.times-worth.ensures (worth_next _ _ _ _ c.requires (omega arith) c.loop-k.invariant.1 _ c.deal_at-d.ensures))

pub returns : goal.returns
returns c =
    let same : c.loop-k.k ≡ c.args.count = omega arith in (rw same at c.loop-k.invariant.1.sum, omega (arith, c.loop-k.invariant.1.most, c.requires.most))
