use native.Mathlib.Omega.{arith}
use lib.ListN.{length-take}
use Rattle.proposal_cases.proofs.show_record.Goals as goal

pub slice_bounds-apply-end : goal.slice_bounds-apply-end
slice_bounds-apply-end g c = simp length-take (omega arith)
