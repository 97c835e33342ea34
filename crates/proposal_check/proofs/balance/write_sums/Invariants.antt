use Rattle.proposal_check.specs.Sums.{SumsTo}
use Rattle.proposal_check.proofs.balance.write_sums.Given as goal

abbrev pub invariant-loop-i : goal.invariant-loop-i
invariant-loop-i l = SumsTo l.book l.places l.legs l.i l.sums
