use Rattle.rules.specs.ContractTerms.{term_closing_day}
use Rattle.contracts.proofs.opening.term_closing_day.Goals as goal

pub returns : goal.returns
unfolding term_closing_day
returns c =
    let a = c.args in
    rw (c.closing_distance.ensures, c.term_first_day.ensures a.holidays.now) at (c.business_day_before.ensures a.first_year)
