use Prim.Native.Nat.{ℕ, ◌+◌}
use mathlib.Core.Path.{ap, ◌∙◌}
use mathlib.Core.List.{List}
use lib.ListN.{get_or}
use Rattle.rules.specs.Ranges.{months_in_span}
use Rattle.rules.specs.Days.{Calendar}
use Rattle.months.proofs.Starts.{span_end, span_most}
use Rattle.contract_phases.proofs.Least.{is_least, distance_positive}
use Rattle.contract_phases.proofs.by_contract.write_phases.Goals as goal

pub find_least-least-requires : goal.find_least-least-requires
find_least-least-requires g c =
    let k : Calendar = record { first_year = c.args.first_year; holidays = c.args.holidays.now } in
    rw (c.read_starts.ensures c.args.holidays.now, span_end k) (span_most k c.requires.0.1)

pub find_least-later-requires : goal.find_least-later-requires
find_least-later-requires g c =
    let k : Calendar = record { first_year = c.args.first_year; holidays = c.args.holidays.now } in
    rw (c.read_starts.ensures c.args.holidays.now, span_end k) (span_most k c.requires.0.1)

pub returns : goal.returns
returns g c =
    let k : Calendar = record { first_year = c.args.first_year; holidays = c.args.holidays.now } in
    let d = c.args.day.0 in
    let made = c.read_starts.ensures k.holidays in
    let end = ap (λ (x : List ℕ). get_or x months_in_span 0) made ∙ span_end k in
    c.write_from.ensures k d made
    (λ s. is_least k d _ _ _ (distance_positive s) end (c.find_least-least.ensures k.first_year s))
    (λ s. is_least k (d + 1) _ _ _ (distance_positive s) end (c.find_least-later.ensures k.first_year s))
