use Rattle.proposal_check.proofs.LastRanks.{LastRanksTo}
use Rattle.proposal_check.proofs.priority.write_last_ranks.Given as goal

abbrev pub invariant-loop-place : goal.invariant-loop-place
invariant-loop-place l = LastRanksTo l.book l.places l.place-index l.lasts
