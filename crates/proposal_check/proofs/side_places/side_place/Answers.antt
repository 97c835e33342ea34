use native.Mathlib.Omega.{arith}
use Rattle.proposal_check.proofs.SidePlaces.{side_below}
use Rattle.proposal_check.proofs.side_places.side_place.Goals as goal

pub returns : goal.returns
returns c = let s = side_below c.args.o.side in (omega (arith, c.side_number.ensures), omega (arith, c.side_number.ensures))
