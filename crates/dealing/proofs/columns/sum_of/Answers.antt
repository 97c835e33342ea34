use mathlib.Core.Path.{◌∙◌}
use native.Mathlib.Omega.{arith}
use Rattle.std.proofs.lemmas.Iterator.{YieldsList-from_slice}
use Rattle.std.proofs.lemmas.Iterator.Consumers.{sum_from_yields_List, fits_from_yields_list}
use Rattle.rules.proofs.Netting.{sum_most}
use Rattle.dealing.specs.Levels.{most_weight}
use Rattle.dealing.proofs.Sums.{sum_is}
use Rattle.dealing.proofs.columns.sum_of.Goals as goal

pub sum-requires-clause-fits : goal.sum-requires-clause-fits
sum-requires-clause-fits c =
    let l = c.args.numbers.now in
    fits_from_yields_list c.iter.result _ (YieldsList-from_slice l cc) (omega (arith, sum_is l, c.requires.few, sum_most l most_weight c.requires.each))

pub returns : goal.returns
returns c = omega (arith, sum_from_yields_List c.iter.result c.sum.result c.sum.ensures.ran (YieldsList-from_slice c.args.numbers.now cc) ∙ sum_is c.args.numbers.now)
