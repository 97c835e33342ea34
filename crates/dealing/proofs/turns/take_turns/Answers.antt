use Prim.Native.Nat.{◌<◌}
use mathlib.Core.Path.{sym, ◌∙◌}
use native.Mathlib.Omega.{arith}
use lib.Dec.{ltb}
use lib.ListN.{get_or, length-set}
use borrow.Author.Tests.{ltb-true}
use Rattle.arith.proofs.Tests.{and_right}
use Rattle.rules.proofs.Turns.{round_deals, round_passes, round_end}
use Rattle.dealing.proofs.turns.take_turns.Goals as goal
use Rattle.dealing.proofs.turns.take_turns.Goals.{then-undealt-has, else-undealt-has}

pub overflow_add-received : goal.overflow_add-received
overflow_add-received c = let l = c.loop-member in
    let a = c.args in
    let m = get_or a.order.now l.member-index 0 in
    let less : get_or l.received m 0 < get_or a.minima.now m 0 = ltb-true _ _ (and_right (ltb 0 l.undealt) _ c.if-undealt-has.true) in
    omega (arith, c.type_inv.minima m)

pub loop-member-preserved : goal.loop-member-preserved
loop-member-preserved c = let l = c.loop-member in
    elim c.if-undealt-has.branch [
      | then-undealt-has w ↦ rw (w.received-is, w.undealt-is) (omega arith, simp length-set l.invariant.1, round_deals _ _ l.received l.undealt l.member-index (omega arith) w.if-undealt-has.true ∙ l.invariant.2)
      | else-undealt-has w ↦ rw (w.received-is, w.undealt-is) (omega arith, l.invariant.1, round_passes _ _ l.received l.undealt l.member-index (omega arith) w.if-undealt-has.false ∙ l.invariant.2)
    ]

pub returns : goal.returns
returns c = sym (round_end _ _ _ c.loop-member.member-index (omega arith)) ∙ c.loop-member.invariant.2
