use Prim.Native.Nat.{◌<◌}
use mathlib.Core.Path.{◌∙◌}
use native.Mathlib.Omega.{arith}
use Rattle.rules.specs.Days.{month_length, month_days, leap_year}
use Rattle.months.proofs.Table.{at}
use Rattle.months.proofs.months.month_start.Goals as goal

pub returns : goal.returns
unfolding month_length month_days leap_year
returns c =
    let month : c.args.month < 961 = omega arith in
    let t : Unit {0} = tt in
    c.from.ensures ∙ rw at
