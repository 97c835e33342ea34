use mathlib.Core.Path.{refl}
use native.Mathlib.Omega.{arith}
use Rattle.listing_numbers.proofs.Writers.{next, within_room}
use Rattle.listing_words.proofs.Spelled.{worded}
use Rattle.listing.proofs.lines.put_priced.Goals as goal

pub returns : goal.returns
returns c = within_room 48 _ (next (worded c.name_of.ensures
    c.put_word-i.ensures) c.put_price.ensures (omega arith)) refl (omega arith)
