use Prim.Native.Nat.{◌≤◌}
use native.Mathlib.Omega.{arith}
use Rattle.rules.specs.Default.{sum_of}
use Rattle.dealing.specs.Levels.{at_level}
use Rattle.dealing.proofs.Levels.{level_zero, level_below}
use Rattle.dealing.proofs.level.level_below.Goals as goal

pub returns-then-lots_at_level-lots : goal.returns-then-lots_at_level-lots
returns-then-lots_at_level-lots c =
    let enough = rw c.lots_at_level.ensures at c.if-lots_at_level-lots.true in
    (level_below c.args.lots c.saturating_sub-level.result c.args.top c.args.minima.now enough c.requires.2, enough)

pub returns : goal.returns
returns c =
    let enough : sum_of (at_level 0 c.args.minima.now) ≤ c.args.lots = omega (arith, level_zero c.args.minima.now) in
    (level_below c.args.lots 0 c.args.top c.args.minima.now enough c.requires.2, enough)
