use mathlib.Core.Path.{◌≡◌, ◌∙◌}
use Prim.Native.Nat.{◌+◌, ◌-◌}
use native.Mathlib.Omega.{arith}
use lib.ListN.{get_or}
use Rattle.std.proofs.lemmas.List.{map-id}
use Rattle.arith.proofs.Tests.{and_left}
use Rattle.rules.specs.Days.{in_span, business_day}
use Rattle.rules.specs.Header.{day_sound}
use Rattle.rules.specs.Ledger.{day_place}
use Rattle.tables.specs.Fit.{calendar_in}
use Rattle.months.proofs.Starts.{day_most}
use Rattle.contract_phases.specs.Phases.{phases}
use Rattle.close_of_day.proofs.write_phases.Goals as goal

pub write_phases-requires : goal.write_phases-requires
unfolding day_sound
write_phases-requires c =
    let head = c.args.head.now in
    let k = calendar_in head in
    let d = get_or head day_place 0 in
    (c.requires.0.years, day_most k d c.requires.0.years.1 (and_left (in_span k d) (business_day k d) c.requires.0.today), c.requires.1)

pub returns : goal.returns
returns c =
    let args = c.args in
    let h = args.head.now in
    let cut : 8 + get_or h 2 0 - 8 ≡ get_or h 2 0 = omega arith in
    rw cut at c.write_phases.ensures ∙ map-id (phases (calendar_in h) (get_or h day_place 0))
