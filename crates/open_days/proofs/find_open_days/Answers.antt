use Prim.Native.Nat.{ℕ}
use mathlib.Core.Path.{ap, ◌∙◌}
use mathlib.Core.List.{List}
use lib.ListN.{get_or}
use Rattle.rules.specs.Ranges.{months_in_span}
use Rattle.rules.specs.Days.{Calendar}
use Rattle.months.proofs.Starts.{starts_length, span_end, span_most, none_earlier}
use Rattle.contract_phases.proofs.Least.{is_least, distance_positive}
use Rattle.open_days.proofs.find_open_days.Goals as goal

pub find_least-least-requires : goal.find_least-least-requires
find_least-least-requires c =
    let k : Calendar = record { first_year = c.args.first_year; holidays = c.args.holidays.now } in
    rw (c.read_starts.ensures k.holidays, span_end k) (span_most k c.requires.0.1)

pub write_open_days-requires : goal.write_open_days-requires
write_open_days-requires c =
    let k : Calendar = record { first_year = c.args.first_year; holidays = c.args.holidays.now } in
    rw (c.read_starts.ensures k.holidays) (starts_length k, none_earlier k, c.requires.1)

pub returns : goal.returns
returns c =
    let a = c.args in
    let k : Calendar = record { first_year = a.first_year; holidays = a.holidays.now } in
    let made = c.read_starts.ensures k.holidays in
    let end = ap (λ (x : List ℕ). get_or x months_in_span 0) made ∙ span_end k in
    c.write_open_days.ensures k a.day.0 made
    (λ s. is_least k a.day.0 _ _ _ (distance_positive s) end (c.find_least-least.ensures k.first_year s))
