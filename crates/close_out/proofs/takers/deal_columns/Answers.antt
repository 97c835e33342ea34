use mathlib.Core.Path.{◌≡◌, ap, ◌∙◌}
use native.Mathlib.Omega.{arith}
use Rattle.rules.specs.Default.{sum_of}
use Rattle.rules.proofs.Netting.{sum_zeros}
use Rattle.tables.specs.Fit.{members_in}
use Rattle.dealing.proofs.Dealt.{all_dealt}
use Rattle.deal_lines.proofs.Takes.{less_room}
use Rattle.close_out.proofs.StepColumns.{takers_buy, takers_sell}
use Rattle.close_out.proofs.takers.deal_columns.Goals as goal

pub book_changes-requires-clause-bookable : goal.book_changes-requires-clause-bookable
book_changes-requires-clause-bookable c =
    let pre = c.requires in
    let a = c.args in
    let d = ap sum_of c.deal_out.ensures ∙ all_dealt a.remaining a.weights.now pre.bookable.2 in
    let z : sum_of a.nothing.now ≡ 0 = ap sum_of pre.taken_len.1 ∙ sum_zeros (members_in a.head.now) in
    less_room _ _ (omega (arith, d, z)) pre.bookable.0

pub returns-then-long-gt0 : goal.returns-then-long-gt0
returns-then-long-gt0 c =
    let pre = c.requires in
    let a = c.args in
    let wide = c.deal_out.auto.received ∙ pre.taken_len.0 in
    let e = takers_buy a.contract a.price.0 a.long a.remaining a.weights.now _ _ _ c.deal_out.ensures pre.taken_len.1 wide c.if-long-gt0.true in
    record { value = rw (← e) c.book_changes.ensures.value; t_after = λ t. rw (← e) (c.book_changes.ensures.t_after t) }

pub book_changes-requires-2-clause-bookable : goal.book_changes-requires-2-clause-bookable
book_changes-requires-2-clause-bookable c =
    let pre = c.requires in
    let a = c.args in
    let d = ap sum_of c.deal_out.ensures ∙ all_dealt a.remaining a.weights.now pre.bookable.2 in
    let z : sum_of a.nothing.now ≡ 0 = ap sum_of pre.taken_len.1 ∙ sum_zeros (members_in a.head.now) in
    less_room _ _ (omega (arith, d, z)) pre.bookable.0

pub returns : goal.returns
returns c =
    let pre = c.requires in
    let a = c.args in
    let wide = c.deal_out.auto.received ∙ pre.taken_len.0 in
    let e = takers_sell a.contract a.price.0 a.long a.remaining a.weights.now _ _ _ c.deal_out.ensures pre.taken_len.1 wide c.if-long-gt0.false in
    record { value = rw (← e) c.book_changes-2.ensures.value; t_after = λ t. rw (← e) (c.book_changes-2.ensures.t_after t) }
