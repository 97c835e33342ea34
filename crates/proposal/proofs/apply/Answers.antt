use native.Mathlib.Omega.{arith}
use mathlib.Core.Path.{sym}
use lib.ListN.{get_or, replicate}
use lib.Seq.{length-take-le}
use Rattle.rules.specs.Ledger.{order_count_place}
use Rattle.proposal_check.proofs.Named.{places_long, places_as_many, places_front}
use Rattle.proposal.proofs.apply.Goals as goal

pub slice_bounds-places-end : goal.slice_bounds-places-end
slice_bounds-places-end c = omega (arith, c.requires.legs_fit.most_legs_holds)

pub slice_bounds-write_places-end : goal.slice_bounds-write_places-end
slice_bounds-write_places-end c = sym (length-take-le _ _ c.requires.legs_fit.most_legs_holds)

pub write_places-requires : goal.write_places-requires
write_places-requires c =
    (c.requires.head_fit.0.most_orders_holds, c.requires.head_fit.2.long, length-take-le _ _ c.requires.legs_fit.most_legs_holds)

pub slice_bounds-places-end-2 : goal.slice_bounds-places-end-2
slice_bounds-places-end-2 c =
    let a = c.args in places_long (get_or a.head.now order_count_place 0) a.book.now a.legs.now _ (replicate 12 0) c.write_places.ensures c.requires.legs_fit.most_legs_holds

pub slice_bounds-apply_at-end : goal.slice_bounds-apply_at-end
slice_bounds-apply_at-end c =
    let a = c.args in places_as_many (get_or a.head.now order_count_place 0) a.book.now a.legs.now _ (replicate 12 0) c.write_places.ensures
    c.requires.legs_fit.most_legs_holds

pub apply_at-requires : goal.apply_at-requires
apply_at-requires c =
    let a = c.args in record {
      head_fit = c.requires.head_fit;
      rows_fit = c.requires.rows_fit;
      legs_fit = (
        c.requires.legs_fit,
        places_front (get_or a.head.now order_count_place 0) a.book.now a.legs.now _ (replicate 12 0) c.write_places.ensures
            c.requires.legs_fit.most_legs_holds,
      );
    }
