use Prim.Native.Nat.{ℕ, ◌-◌}
use mathlib.Core.Path.{◌≡◌, refl, ◌∙◌}
use mathlib.Core.Bool.{cond}
use native.Mathlib.Omega.{arith}
use lib.ListN.{length-set}
use Rattle.arith.proofs.Columns.{mapped_next, mapped_end, written_next, written_end}
use Rattle.rules.specs.Ranges.{term_count}
use Rattle.rules.specs.ContractTerms.{days_of, open_on}
use Rattle.contract_phases.specs.Least.{least_of}
use Rattle.open_days.specs.OpenDays.{open_days}
use Rattle.contracts.proofs.InLedger.{numbered}
use Rattle.open_days.proofs.OpenDays.{days_by_number}
use Rattle.open_days.proofs.write_open_days.Goals as goal

pub loop-contract-init : goal.loop-contract-init
unfolding open_days
loop-contract-init c = (c.requires.2, λ k d e g. refl)

pub days_if_open-requires : goal.days_if_open-requires
days_if_open-requires c =
    let pre = c.requires in
    (pre.0, rw c.term_of-t.ensures (numbered _ (omega arith)), pre.1)

pub loop-contract-preserved : goal.loop-contract-preserved
loop-contract-preserved c = (
  simp length-set c.loop-contract.invariant.0,
  λ k d e g. let f : ℕ → ℕ = λ x. cond (open_on k d x) (days_of k x) 0 in
      let days : c.days_if_open.result ≡ f c.loop-contract.contract =
      rw c.term_of-t.ensures at (c.days_if_open.ensures k d e (rw c.least_of.ensures (g c.term_of-t.result.kind))) ∙ days_by_number k d c.loop-contract.contract (omega arith) in
      rw days (written_next c.loop-contract.days c.loop-contract.contract _ _ _ (omega arith) (rw (mapped_next term_count c.loop-contract.contract f (omega arith)) at (c.loop-contract.invariant.1 k d e g))),
)

pub returns : goal.returns
returns c =
    λ k d e g. written_end c.loop-contract.days c.loop-contract.contract _ _ (omega arith) (mapped_end term_count c.loop-contract.contract _ (omega arith)) (c.loop-contract.invariant.1 k d e g)

pub shape_of-days : goal.shape_of-days
shape_of-days c = omega arith
