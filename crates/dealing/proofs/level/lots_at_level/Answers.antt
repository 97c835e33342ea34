use Prim.Native.Nat.{min}
use mathlib.Core.Path.{◌≡◌, ◌∙◌}
use Rattle.std.proofs.Common.{rules}
use Rattle.std.specs.List.{sum_by}
use Rattle.dealing.specs.Levels.{at_level}
use Rattle.dealing.proofs.Sums.{sum_by_is}
use Rattle.dealing.proofs.level.lots_at_level.Goals as goal

pub returns : goal.returns
unfolding at_level
returns c =
    let minima = c.args.minima.now in
    let e : c.sum.result ≡ sum_by (min c.args.level) minima = search rules in e ∙ sum_by_is (min c.args.level) minima
