use Rattle.listing_words.specs.Fields.{fields_in}
use Rattle.listing.specs.Lines.{Going}
use Rattle.listing.proofs.lines.put_fields.Given as goal

abbrev pub invariant-loop-i : goal.invariant-loop-i
invariant-loop-i l = Going l.first_year l.base l.members l.bytes (fields_in l.shape) l.initial.out l.out l.start l.i l.place l.end
