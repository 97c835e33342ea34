use mathlib.Core.Path.{◌≡◌}
use mathlib.Core.List.{◌++◌}
use lib.ListN.{take, drop}
use Rattle.proposal_check.specs.Legs.{places_of}
use Rattle.proposal_check.proofs.places.write_places.Given as goal

abbrev pub invariant-loop-i : goal.invariant-loop-i
invariant-loop-i l = l.places ≡ take l.i (places_of l.count l.book l.legs) ++ drop l.i l.initial.places
