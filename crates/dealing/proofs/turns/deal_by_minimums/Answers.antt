use Prim.Native.Nat.{◌-◌}
use mathlib.Core.Path.{◌≡◌, sym, ap, ◌∙◌}
use native.Mathlib.Omega.{arith}
use lib.ListN.{length, length-take, length-append}
use lib.Seq.{take_at}
use Rattle.rules.proofs.MembersInOrder.{order_length, order_below}
use Rattle.arith.proofs.Appends.{from_length}
use Rattle.rules.proofs.Minimums.{minimums_length}
use Rattle.dealing.proofs.Dealt.{some_members, dealt_by_round}
use Rattle.dealing.proofs.turns.deal_by_minimums.Goals as goal

pub put_in_order-requires : goal.put_in_order-requires
put_in_order-requires c = (ap length c.requires.member_column.1 ∙ minimums_length _ _, simp length-take (omega arith))

pub highest_level-level-requires : goal.highest_level-level-requires
highest_level-level-requires c =
    (omega arith, omega (arith, ap length c.requires.member_column.1, minimums_length c.args.lots c.args.weights.now))

pub lots_at_level-requires : goal.lots_at_level-requires
lots_at_level-requires c =
    (omega (arith, c.highest_level-level.ensures.within), omega (arith, ap length c.requires.member_column.1, minimums_length c.args.lots c.args.weights.now))

pub fill_to_level-requires : goal.fill_to_level-requires
fill_to_level-requires c =
    c.requires.lots_le_most_lots_run.2 ∙ sym (ap length c.requires.member_column.1 ∙ minimums_length _ _)

pub slice_bounds-order-end-2 : goal.slice_bounds-order-end-2
slice_bounds-order-end-2 c =
    let put-in-order = c.put_in_order in
    simp length-append (omega (arith, ap length put-in-order.ensures ∙ order_length _ _ ∙ from_length 0 (length c.args.weights.now)))

pub slice_bounds-take_turns-end : goal.slice_bounds-take_turns-end
slice_bounds-take_turns-end c =
    let put-in-order = c.put_in_order in
    let long : length put-in-order.new.order ≡ length c.args.weights.now = ap length put-in-order.ensures ∙ order_length _ _ ∙ from_length 0
    (length c.args.weights.now) in
    sym (ap length (take_at put-in-order.new.order _ _ long) ∙ long)

pub take_turns-requires : goal.take_turns-requires
take_turns-requires c =
    let put-in-order = c.put_in_order in
    let fill-to-level = c.fill_to_level in
    let a = c.args in
    let n = length a.weights.now in
    let long : length put-in-order.new.order ≡ n = ap length put-in-order.ensures ∙ order_length _ _ ∙ from_length 0 n in
    let wide : length a.minima.now ≡ n = ap length c.requires.member_column.1 ∙ minimums_length _ _ in
    let back = take_at put-in-order.new.order _ n long in record {
      order_len = (ap length back ∙ long ∙ sym wide, fill-to-level.auto.received ∙ c.requires.lots_le_most_lots_run.2 ∙ sym wide);
      by_index = λ i. rw (back, put-in-order.ensures, wide)
          (order_below _ n 0 n (some_members _ c.requires.lots_le_most_lots_run.1) (omega arith) i);
    }

pub returns : goal.returns
returns c =
    let put-in-order = c.put_in_order in
    let highest-level = c.highest_level-level in
    let lots-at-level = c.lots_at_level in
    let fill-to-level = c.fill_to_level in
    let a = c.args in
    let n = length a.weights.now in
    let long : length put-in-order.new.order ≡ n = ap length put-in-order.ensures ∙ order_length _ _ ∙ from_length 0 n in
    dealt_by_round a.lots a.weights.now c.requires.lots_le_most_lots_run.1 a.minima.now _ _ highest-level.result _ _ c.requires.member_column.1
    (take_at _ _ n long ∙ put-in-order.ensures) highest-level.ensures fill-to-level.ensures (ap (λ s. a.lots - s) lots-at-level.ensures)
    c.take_turns.ensures
