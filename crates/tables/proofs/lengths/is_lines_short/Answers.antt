use mathlib.Core.Path.{refl}
use Rattle.rules.specs.Ledger.{lines_short}
use Rattle.tables.proofs.lengths.is_lines_short.Goals as goal

pub returns : goal.returns
unfolding lines_short
returns c = λ t. refl
