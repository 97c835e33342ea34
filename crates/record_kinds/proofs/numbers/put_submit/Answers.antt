use native.Mathlib.Omega.{arith}
use mathlib.Core.List.{◌∷◌}
use lib.ListN.{length-set}
use Rattle.arith.proofs.Writes.{stored}
use Rattle.rules.specs.declared.event.Event.TheVariants.{Submit}
use Rattle.rules.specs.Records.{kind_number, event_numbers}
use Rattle.record_kinds.proofs.numbers.put_submit.Goals as goal

pub bounds-numbers-1 : goal.bounds-numbers-1
bounds-numbers-1 c = simp length-set (omega arith)

pub bounds-numbers-2 : goal.bounds-numbers-2
bounds-numbers-2 c = simp length-set (omega arith)

pub bounds-numbers-3 : goal.bounds-numbers-3
bounds-numbers-3 c = simp length-set (omega arith)

pub bounds-numbers-4 : goal.bounds-numbers-4
bounds-numbers-4 c = simp length-set (omega arith)

pub bounds-numbers-5 : goal.bounds-numbers-5
bounds-numbers-5 c = simp length-set (omega arith)

pub bounds-numbers-6 : goal.bounds-numbers-6
bounds-numbers-6 c = simp length-set (omega arith)

pub bounds-numbers-7 : goal.bounds-numbers-7
bounds-numbers-7 c = simp length-set (omega arith)

pub returns : goal.returns
returns c =
    let a = c.args in
    rw (c.side_number.ensures.0, c.order_kind_number.ensures.0) (stored (kind_number (Submit a.e) ∷ event_numbers (Submit a.e)) a.numbers.now 0 (omega arith))
