use native.Mathlib.Omega.{arith}
use lib.ListN.{length-set}
use Rattle.rules.specs.Ledger.{without_submits}
use Rattle.rules.specs.CloseOfDay.{on_day}
use Rattle.close_of_day.proofs.begin_day.Goals as goal

pub bounds-head-4 : goal.bounds-head-4
bounds-head-4 c = simp length-set (omega (arith, c.clear_at.auto.places, c.requires.0))

pub returns : goal.returns
unfolding on_day without_submits
returns c = λ t. rw c.clear_at.ensures
