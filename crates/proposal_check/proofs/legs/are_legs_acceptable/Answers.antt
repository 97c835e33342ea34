use native.Mathlib.Omega.{arith}
use mathlib.Core.Path.{sym}
use lib.ListN.{replicate}
use lib.Seq.{length-take-le}
use Rattle.tables.specs.Fit.{order_count_in}
use Rattle.proposal_check.proofs.Named.{places_long, places_as_many, places_front}
use Rattle.proposal_check.proofs.legs.are_legs_acceptable.Goals as goal

pub slice_bounds-write_places-end : goal.slice_bounds-write_places-end
slice_bounds-write_places-end c =
    sym (length-take-le _ _ c.requires.legs_fit.most_legs_holds)

pub write_places-requires : goal.write_places-requires
write_places-requires c =
    let fit = c.requires in
    (omega (arith, fit.head_fit.0.most_orders_holds), fit.head_fit.1.long, length-take-le _ _ fit.legs_fit.most_legs_holds)

pub slice_bounds-places-end-2 : goal.slice_bounds-places-end-2
slice_bounds-places-end-2 c =
    places_long _ c.args.book.now c.args.legs.now _ (replicate 12 0) c.write_places.ensures c.requires.legs_fit.most_legs_holds

pub slice_bounds-is_acceptable-end : goal.slice_bounds-is_acceptable-end
slice_bounds-is_acceptable-end c =
    let a = c.args in
    let written = c.write_places.ensures in
    places_as_many _ a.book.now a.legs.now _ (replicate 12 0) written c.requires.legs_fit.most_legs_holds

pub is_acceptable-requires : goal.is_acceptable-requires
is_acceptable-requires c =
    let a = c.args in
    let written = c.write_places.ensures in
    let front = places_front (order_count_in a.head.now) a.book.now a.legs.now _ (replicate 12 0) written c.requires.legs_fit.most_legs_holds in
    record { head_fit = c.requires.head_fit; legs_fit = (c.requires.legs_fit, front) }
