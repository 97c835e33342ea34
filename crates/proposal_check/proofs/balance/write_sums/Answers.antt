use native.Mathlib.Omega.{arith}
use mathlib.Core.Path.{ap, ◌∙◌}
use Rattle.proposal_check.specs.SidePlaces.{side_place_of}
use Rattle.proposal_check.proofs.Sums.{sums_start, sums_next, most_sum, most_at}
use Rattle.proposal_check.proofs.balance.write_sums.Goals as goal

pub loop-i-init : goal.loop-i-init
loop-i-init c = rw c.requires.4 (sums_start c.args.book.now c.args.places.now c.args.legs.now c.requires.2)

pub overflow_add-sums : goal.overflow_add-sums
overflow_add-sums c =
    let a = c.args in
    omega (
      arith,
      c.leg_amount.ensures,
      c.requires.2.most_legs_holds,
      c.loop-i.invariant.at c.side_place-at.result c.side_place-at.ensures.1,
      most_at a.book.now a.places.now a.legs.now c.requires.2 c.loop-i.i c.loop-i-test.true,
      most_sum a.book.now a.places.now a.legs.now c.requires.2 c.loop-i.i c.side_place-at.result (omega arith),
    )

pub loop-i-preserved : goal.loop-i-preserved
loop-i-preserved c =
    let a = c.args in
    rw c.leg_amount.ensures
    (sums_next a.book.now a.places.now a.legs.now c.requires.2 c.loop-i.i c.side_place-at.result c.loop-i.sums c.loop-i.invariant
    (c.side_place-at.ensures.0 ∙ ap side_place_of c.order_at.ensures) c.side_place-at.ensures.1)
