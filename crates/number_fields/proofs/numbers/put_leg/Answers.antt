use native.Mathlib.Omega.{arith}
use native.Mathlib.Numerals.{add-one, add-two}
use lib.ListN.{length-set}
use Rattle.arith.proofs.Writes.{stored}
use Rattle.rules.specs.Records.{leg_numbers}
use Rattle.number_fields.proofs.numbers.put_leg.Goals as goal

pub bounds-row-at-2 : goal.bounds-row-at-2
bounds-row-at-2 c = simp length-set (omega arith)

pub bounds-row-at-3 : goal.bounds-row-at-3
bounds-row-at-3 c = simp length-set (omega arith)

pub returns : goal.returns
returns c = let a = c.args in rw (add-one a.at, add-two a.at) (stored (leg_numbers a.leg) a.row.now a.at (omega arith))
