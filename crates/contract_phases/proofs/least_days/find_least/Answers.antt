use mathlib.Core.Path.{◌≡◌}
use Rattle.rules.specs.ContractTerms.{closing_distance}
use Rattle.contract_phases.specs.Least.{least_first_day, least_of}
use Rattle.contract_phases.proofs.Least.{by_kind}
use Rattle.contract_phases.proofs.least_days.find_least.Goals as goal

pub returns : goal.returns
returns c =
    let a = c.args in
    λ y. by_kind
    (λ s. least_of (record { year = c.least_first_day.result; quarter = c.least_first_day-2.result; month = c.least_first_day-3.result }) s
    ≡ least_first_day (record { first_year = y; holidays = a.holidays.now }) a.day.0 (closing_distance s) a.end.0)
    (c.least_first_day.ensures y) (c.least_first_day-2.ensures y) (c.least_first_day-3.ensures y)
