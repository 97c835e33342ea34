use mathlib.Core.Path.{◌≡◌}
use mathlib.Core.List.{map}
use Prim.Native.Nat.{◌-◌}
use lib.ListN.{length, take}
use Rattle.arith.specs.Lists.{from, kept}
use Rattle.rules.specs.OtherForms.{contract_of, contracts_in}
use Rattle.contract_phases.specs.Phases.{waits, open_in}
use Rattle.reference_price.specs.Columns.{DealsFit, ggfs_from}
use Rattle.reference_price.proofs.prices.write_kind_ggfs.Given as goal

abbrev pub invariant-loop-i : goal.invariant-loop-i
invariant-loop-i g l =
    let column = map g.P.PhasePlace.read l.column in
    DealsFit l.prices × (length l.prices ≡ length l.initial.prices)
    × (ggfs_from l.buys l.sells (take l.more (kept (waits column) (map (contract_of l.kind) (from l.i (contracts_in l.kind - l.i))))) l.prices ≡ ggfs_from l.buys l.sells (open_in column l.kind) l.initial.prices)
