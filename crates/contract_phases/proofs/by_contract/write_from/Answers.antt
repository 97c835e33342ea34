use Prim.Native.Nat.{ℕ}
use mathlib.Core.Path.{sym, ap, ◌∙◌}
use mathlib.Core.List.{map}
use native.Mathlib.Omega.{arith}
use lib.ListN.{length-set}
use Rattle.arith.specs.Lists.{from}
use Rattle.arith.proofs.Scans.{map_map}
use Rattle.arith.proofs.Columns.{mapped_next, mapped_end, written_next, written_end}
use Rattle.rules.specs.Ranges.{term_count}
use Rattle.rules.specs.ContractTerms.{term_of}
use Rattle.contracts.proofs.InLedger.{numbered}
use Rattle.contract_phases.specs.Phases.{term_phase, phases}
use Rattle.contract_phases.proofs.by_contract.write_from.Goals as goal

pub loop-contract-init : goal.loop-contract-init
unfolding phases
loop-contract-init g c = (c.requires.1, λ k d e h u. sym (map_map g.P.PhasePlace.written (λ x. term_phase k d (term_of x)) (from 0 term_count)))

pub phase_of-requires : goal.phase_of-requires
phase_of-requires g c = (c.requires.0, rw c.term_of.ensures (numbered _ (omega arith)))

pub loop-contract-preserved : goal.loop-contract-preserved
loop-contract-preserved g c = (
  simp length-set c.loop-contract.invariant.0,
  λ k d e h u. let written = g.P.PhasePlace.written in
      let f = λ (x : ℕ). written (term_phase k d (term_of x)) in
      let phase = rw c.term_of.ensures at (c.phase_of.ensures k d e (h c.term_of.result.kind) (u c.term_of.result.kind)) in
      rw (c.from_phase.ensures ∙ ap written phase) (written_next c.loop-contract.column c.loop-contract.contract _ _ (map written (phases k d)) (omega arith) (rw (mapped_next term_count c.loop-contract.contract f (omega arith)) at (c.loop-contract.invariant.1 k d e h u))),
)

pub returns : goal.returns
returns g c =
    λ k d e h u. written_end c.loop-contract.column c.loop-contract.contract _ _ (omega arith) (mapped_end term_count c.loop-contract.contract _ (omega arith)) (c.loop-contract.invariant.1 k d e h u)
