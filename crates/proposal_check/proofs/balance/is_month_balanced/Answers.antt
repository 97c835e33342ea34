use native.Mathlib.Nat.{add-zero}
use Rattle.proposal_check.proofs.balance.is_month_balanced.Goals as goal

pub returns : goal.returns
returns c = let held = c.contracts_of-held.ensures in rw (c.sum_of_three.ensures, c.sum_of_three-2.ensures, held.0, held.1, held.2) (simp add-zero)
