-- Demand 3 of what runs: calls that keep their promises are the list of the theorem about the rules. Assumes nothing.
use mathlib.Core.Path.{ap}
use Rattle.rules.specs.Answers.{Outcome, reply_of}
use Rattle.rules.specs.Ledger.{Tables}
use Rattle.rules.specs.Accounts.{Agrees}
use Rattle.accounts.specs.EveryRun.{MakesByRules, AppliesByRules}
use Rattle.accounts.proofs.ListsToRuns.{after_every_run}
use Rattle.accounts.proofs.TwoBookkeepers.{two_bookkeepers}
use Rattle.engine.specs.Runs.{Makes, Applies, Demand3Runs}

makes_by_rules : MakesByRules reply_of Makes
makes_by_rules t header a u e = (ap (λ (o : Outcome Tables). (reply_of o.answer).number) e, ap (λ (o : Outcome Tables). o.after) e)

applies_by_rules : AppliesByRules reply_of Applies
applies_by_rules t bytes a u e = (ap (λ (o : Outcome Tables). reply_of o.answer) e, ap (λ (o : Outcome Tables). o.after) e)

pub demand_3_runs : Demand3Runs
demand_3_runs = after_every_run reply_of Applies applies_by_rules Makes makes_by_rules Agrees two_bookkeepers
