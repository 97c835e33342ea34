use native.Mathlib.Omega.{arith}
use mathlib.Core.Path.{sym, ◌∙◌}
use lib.ListN.{length-map}
use Rattle.arith.proofs.Appends.{map_at}
use Rattle.arith.proofs.Writes.{front_next}
use Rattle.tables.specs.Fit.{orders_in}
use Rattle.proposal_check.specs.Legs.{no_leg, place_of, places_of}
use Rattle.proposal_check.proofs.places.write_places.Goals as goal

pub loop-i-preserved : goal.loop-i-preserved
loop-i-preserved c =
    let a = c.args in
    let all = places_of a.count a.book.now a.legs.now in
    let here = c.place_of.ensures ∙ sym (map_at (λ g. place_of g.order (orders_in a.count a.book.now)) a.legs.now c.loop-i.i no_leg 0 c.loop-i-test.true) in
    rw (here, c.loop-i.invariant)
    (front_next c.loop-i.i all a.places.now 0 (omega (arith, length-map a.legs.now (λ g. place_of g.order (orders_in a.count a.book.now)))) (omega arith))
