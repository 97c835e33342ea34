use mathlib.Core.List.{map}
use Prim.Native.Nat.{◌*◌}
use lib.ListN.{length}
use Rattle.arith.specs.Lists.{kept}
use Rattle.rules.specs.ContractTerms.{contracts_of}
use Rattle.rules.specs.CloseOfDay.{all_cascaded}
use Rattle.contract_phases.specs.Phases.{closes}
use Rattle.cascade.specs.Rows.{most_row}
use Rattle.cascade.proofs.Cascades.{KindRun}
use Rattle.cascade.proofs.rows.cascade_kind.Given as goal

abbrev pub invariant-loop-i : goal.invariant-loop-i
invariant-loop-i g l =
    let column = map g.P.PhasePlace.read l.column in
    KindRun l.members (length l.initial.rows) (7 * most_row) l.kind column (all_cascaded l.members (kept (closes column) (contracts_of l.kind)) l.initial.rows) l.i l.rows
