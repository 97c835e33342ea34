use mathlib.Core.Path.{refl}
use native.Mathlib.Omega.{arith}
use Rattle.listing_numbers.proofs.Writers.{next, within_room, number}
use Rattle.listing_words.proofs.Spelled.{worded}
use Rattle.listing.proofs.lines.put_named.Goals as goal

pub returns : goal.returns
returns c = within_room 45 _ (next (worded c.name_of.ensures
    c.put_word-i.ensures) (number c.put_field.ensures) (omega arith)) refl (omega arith)
