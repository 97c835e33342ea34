use Rattle.std.proofs.Common.{◌≡◌, ◌+◌, ◌*◌, ◌-◌, ◌^◌, sym, arith}
use Rattle.arith.specs.Bits.{in_window}
use Rattle.arith.proofs.Bits.{or_below, none_below}
use Rattle.damage.proofs.Columns.{row_none, row_more, row_two_more}
use Rattle.damage.proofs.rows.or_of_columns.Goals as goal

pub loop-pair-init : goal.loop-pair-init
loop-pair-init c = λ k h. rw (none_below k) (sym (row_none (in_window (2 ^ k)) c.args.rows.now))

pub loop-pair-preserved : goal.loop-pair-preserved
loop-pair-preserved c =
    let a = c.args in
    let next : 2 * (c.loop-pair.pair + 1) ≡ 2 * c.loop-pair.pair + 2 = omega arith in
    λ k h. rw (next, or_below k c.loop-pair.seen c.or_of_pair-seen.result, c.or_of_pair-seen.ensures k h, c.loop-pair.invariant k h) (sym (row_two_more k (2 * c.loop-pair.pair) a.rows.now))

pub returns-then-n-eq1 : goal.returns-then-n-eq1
returns-then-n-eq1 c =
    let a = c.args in
    let all : 2 * c.loop-pair.pair + 1 ≡ a.n = omega arith in
    let last : a.n - 1 ≡ 2 * c.loop-pair.pair = omega arith in
    λ k h. rw (or_below k c.loop-pair.seen c.or_of_column-seen.result, c.or_of_column-seen.ensures k h, c.loop-pair.invariant k h, last, ← all) (sym (row_more k (2 * c.loop-pair.pair) a.rows.now))

pub returns-else-n-eq1 : goal.returns-else-n-eq1
returns-else-n-eq1 c =
    let all : 2 * c.loop-pair.pair ≡ c.args.n = omega arith in
    rw (← all) c.loop-pair.invariant
