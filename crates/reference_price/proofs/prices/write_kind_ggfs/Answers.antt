use mathlib.Core.Path.{refl, ◌∙◌}
use mathlib.Core.List.{map}
use mathlib.Core.Bool.{◌&&◌}
use Prim.Native.Nat.{◌+◌, ◌-◌}
use native.Mathlib.Omega.{arith}
use native.Mathlib.Nat.{sub-zero}
use lib.Dec.{ltb}
use lib.ListN.{length}
use lib.Seq.{take-nil}
use Prim.Native.Nat.{◌<◌}
use Rattle.arith.specs.Lists.{from, kept}
use Rattle.arith.proofs.Scans.{from_next, from_end}
use Rattle.rules.specs.OtherForms.{contract_of, contracts_in}
use Rattle.rules.proofs.CalendarLaws.{contracts_of_lem}
use Rattle.contract_phases.specs.Phases.{waits, open_in}
use Rattle.contract_phases.proofs.Phases.{number_below, place_read}
use Rattle.reference_price.specs.Columns.{ggf_from, ggfs_from}
use Rattle.reference_price.proofs.Ggfs.{deals_if, open_next}
use Rattle.reference_price.proofs.prices.write_kind_ggfs.Goals as goal

pub loop-i-init : goal.loop-i-init
unfolding open_in
loop-i-init g c =
    let kind = c.args.kind in
    (c.requires.0, refl, rw (c.open_count-more.ensures, contracts_of_lem kind, sub-zero (contracts_in kind)))

pub loop-i-preserved : goal.loop-i-preserved
loop-i-preserved g c =
    let a = c.args in
    let size = contracts_in a.kind in
    let h : c.loop-i.i < size = omega (arith, c.contracts_in-i-end.ensures) in
    let x = contract_of a.kind c.loop-i.i in
    let rest = map (contract_of a.kind) (from (c.loop-i.i + 1) (size - (c.loop-i.i + 1))) in
    let known = rw (from_next c.loop-i.i size h) at c.loop-i.invariant.2 in
    let column = map g.P.PhasePlace.read a.column.now in
    let below : c.contract_of-contract.result < length a.column.now = omega (arith, c.contract_of-contract.ensures, number_below a.kind c.loop-i.i h, c.requires.3) in
    let phase = c.to_phase-phase.ensures ∙ place_read g.P.PhasePlace.read a.column.now c.contract_of-contract.result c.index-column-contract.result below c.index-column-contract.is in
    let v = ggf_from a.buys.now a.sells.now c.loop-i.prices x in (
      rw (c.write_if_open-more.ensures.prices_after, phase, c.contract_of-contract.ensures) (deals_if (waits column x && ltb 0 c.loop-i.more) c.loop-i.prices x v c.loop-i.invariant.0),
      omega (arith, c.write_if_open-more.auto.prices),
      rw (c.write_if_open-more.ensures.value, c.write_if_open-more.ensures.prices_after, phase, c.contract_of-contract.ensures)
          (open_next a.buys.now a.sells.now c.loop-i.prices _ (waits column) c.loop-i.more x rest known),
    )

pub returns : goal.returns
unfolding ggfs_from kept
returns g c =
    let a = c.args in
    let size = contracts_in a.kind in
    rw (take-nil c.loop-i.more) at (rw (from_end c.loop-i.i size (omega (arith, c.contracts_in-i-end.ensures))) at c.loop-i.invariant.2)
