use native.Mathlib.Omega.{arith}
use mathlib.Core.List.{◌∷◌}
use lib.ListN.{length-set}
use Rattle.arith.proofs.Writes.{stored}
use Rattle.rules.specs.declared.event.Event.TheVariants.{CloseOut}
use Rattle.rules.specs.Records.{kind_number, event_numbers}
use Rattle.record_kinds.proofs.numbers.put_close_out.Goals as goal

pub bounds-numbers-1 : goal.bounds-numbers-1
bounds-numbers-1 c = simp length-set (omega arith)

pub bounds-numbers-2 : goal.bounds-numbers-2
bounds-numbers-2 c = simp length-set (omega arith)

pub returns : goal.returns
returns c = let a = c.args in stored (kind_number (CloseOut a.e) ∷ event_numbers (CloseOut a.e)) a.numbers.now 0 (omega arith)
