use native.Mathlib.Omega.{arith}
use mathlib.Core.List.{◌∷◌}
use lib.ListN.{length-set}
use Rattle.arith.proofs.Writes.{stored}
use Rattle.rules.specs.declared.event.Event.TheVariants.{CloseOfDay}
use Rattle.rules.specs.Records.{kind_number, event_numbers}
use Rattle.record_kinds.proofs.numbers.put_close_of_day.Goals as goal

pub bounds-numbers-1 : goal.bounds-numbers-1
bounds-numbers-1 c = simp length-set (omega arith)

pub returns : goal.returns
returns c = let a = c.args in stored (kind_number (CloseOfDay a.time) ∷ event_numbers (CloseOfDay a.time)) a.numbers.now 0 (omega arith)
