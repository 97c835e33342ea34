use native.Mathlib.Omega.{arith}
use native.Mathlib.Nat.{mul-le-mul}
use lib.IntN.{pos}
use Rattle.arith.proofs.Sizes.{abs_times}
use Rattle.rules.specs.Ledger.{posted}
use Rattle.deal_lines.proofs.lines.post_line.Goals as goal

pub add_to_row-requires : goal.add_to_row-requires
add_to_row-requires c =
    let pre = c.requires in
    let l = c.args.line in
    let signed = c.with_sign-signed_lots in record {
      at_in_bounds = (omega arith, omega (arith, signed.ensures.1, pre.rows_fit.0.within l.contract l.member (omega arith) (omega arith)));
      at_in_bounds_2 = (
        omega arith,
        rw (c.times.ensures, abs_times signed.result.0 (pos l.price.0), signed.ensures.1)
            (omega (
              arith,
              mul-le-mul pre.members_le_most_members.4 pre.members_le_most_members.3,
              pre.rows_fit.1.within l.contract l.member (omega arith) (omega arith),
            )),
      );
    }

pub returns : goal.returns
unfolding posted
returns c =
    let signed = c.with_sign-signed_lots in
    let times = c.times in
    let added = c.add_to_row in
    record { lots_after = rw signed.ensures.0 at added.ensures.lots_after; value_after = rw (times.ensures, signed.ensures.0) at added.ensures.value_after }
