use Rattle.std.proofs.Common.{◌≡◌, ◌-◌, ◌*◌, ◌%◌, ◌^◌, ◌≤◌, arith, pow_mono}
use lib.Count.{count_leading_zeros, leading_le}
use Rattle.damage.proofs.Columns.{digits}
use Rattle.damage.proofs.rows.width_within.Goals as goal

pub overflow_sub-result : goal.overflow_sub-result
overflow_sub-result c = leading_le 64 c.args.bound

pub overflow_shl-result : goal.overflow_shl-result
overflow_shl-result c = omega (arith, (digits c.args.bound c.requires).0)

pub returns : goal.returns
returns c =
    let b = c.args.bound in
    let reply_of = digits b c.requires in
    let small : 2 ^ (64 - count_leading_zeros 64 b) ≤ 2 ^ 62 = pow_mono reply_of.0 in
    let whole : (1 * 2 ^ (64 - count_leading_zeros 64 b)) % 2 ^ 64 ≡ 2 ^ (64 - count_leading_zeros 64 b) = omega arith in
    (64 - count_leading_zeros 64 b, (reply_of.0, whole), rw whole reply_of.1)
