use mathlib.Core.Path.{◌≡◌, refl, sym, ap, ◌∙◌}
use mathlib.Core.List.{map}
use Prim.Native.Nat.{◌≤◌, ◌<◌}
use lib.ListN.{length, length-map, get_or}
use native.Mathlib.Omega.{arith}
use Rattle.arith.proofs.Writes.{front_next, front_end}
use Rattle.matching.specs.Ranks.{lots_of, first_rank, rank_in, placed_rank}
use Rattle.matching.proofs.Best.{ranks_length}
use Rattle.tables.specs.Fit.{orders_in}
use Rattle.order_book.proofs.Left.{orders_length}
use Rattle.matching.proofs.Passes.{lots_here, rank_here}
use Rattle.matching.proofs.Lows.{placed_start, placed_next, placed_all}
use Rattle.matching.proofs.columns.write_columns.Goals as goal

pub loop-i-init : goal.loop-i-init
loop-i-init c = (refl, placed_start _ _ c.requires.left_len_bound.1)

pub rank_at-requires : goal.rank_at-requires
rank_at-requires c =
    let f = c.requires.by_index c.loop-i.i (omega arith) in rw c.order_at-r.ensures (f.0, f.1, omega arith)

pub bounds-ranks-i : goal.bounds-ranks-i
bounds-ranks-i c = omega (arith, c.loop-i.invariant.1.long)

pub loop-i-preserved : goal.loop-i-preserved
loop-i-preserved c =
    let a = c.args in
    let n = length a.left.now in
    let os = orders_in n a.book.now in
    let h : c.loop-i.i < n = omega arith in
    let here = c.order_at-r.ensures in
    let lots : c.order_at-r.result.lots.0 ≡ get_or (map lots_of os) c.loop-i.i 0 = ap (λ r. r.lots.0) here ∙ sym (lots_here a.book.now a.o n c.loop-i.i h) in
    let rank : c.rank_at.result ≡ placed_rank c.loop-i.i (get_or (first_rank a.o os) c.loop-i.i 0)
    = c.rank_at.ensures ∙ ap (λ r. placed_rank c.loop-i.i (rank_in a.o r.lots.0 r)) here ∙ ap (placed_rank c.loop-i.i) (sym (rank_here a.book.now a.o n c.loop-i.i h)) in (
      rw (lots, c.loop-i.invariant.0) (front_next c.loop-i.i (map lots_of os) a.left.now 0 (omega (arith, length-map os lots_of, orders_length a.book.now n)) h),
      placed_next _ _ _ _ (omega (arith, ranks_length a.o (map lots_of os) os (length-map os lots_of), orders_length a.book.now n)) (omega arith) c.loop-i.invariant.1 rank,
    )

pub shape_of-ranks : goal.shape_of-ranks
shape_of-ranks c =
    c.loop-i.invariant.1.long ∙ sym (ap length c.requires.left_len_bound.1)

pub returns : goal.returns
returns c =
    let a = c.args in
    let n = length a.left.now in
    let os = orders_in n a.book.now in
    let h : n ≤ c.loop-i.i = omega arith in record { left_after_holds = c.loop-i.invariant.0 ∙ front_end c.loop-i.i (map lots_of os) a.left.now (omega (arith, length-map os lots_of, orders_length a.book.now n)) h; placed = placed_all _ _ _ (omega (arith, ranks_length a.o (map lots_of os) os (length-map os lots_of), orders_length a.book.now n)) c.loop-i.invariant.1 }
