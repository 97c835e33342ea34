use mathlib.Core.Path.{refl}
use Rattle.listing_words.specs.Fields.{within}
use Rattle.listing.proofs.ranges.is_within.Goals as goal

pub returns : goal.returns
unfolding within
returns c = refl
