use native.Mathlib.Omega.{arith}
use mathlib.Core.Path.{sym, ap, subst, ◌∙◌}
use lib.ListN.{length}
use Rattle.proposal_check.specs.Legs.{PlacesFit}
use Rattle.proposal.specs.Booking.{left_after}
use Rattle.proposal.proofs.Taken.{lots_length}
use Rattle.proposal.proofs.booking.write_left.Goals as goal

pub take_lots-requires : goal.take_lots-requires
take_lots-requires c =
    let a = c.args in
    let same = ap length c.write_lots.ensures ∙ lots_length (length a.left.now) a.book.now in
    (omega (arith, same, c.requires.0), subst (λ n. PlacesFit n a.places.now) (sym same) c.requires.2, c.requires.3)

pub returns : goal.returns
returns c =
    let a = c.args in c.take_lots.ensures ∙ ap (left_after a.places.now a.legs.now (length a.places.now)) c.write_lots.ensures
