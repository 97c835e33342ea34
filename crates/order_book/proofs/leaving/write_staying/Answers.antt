use mathlib.Core.Path.{sym, ap}
use native.Mathlib.Omega.{arith}
use mathlib.Core.Path.{◌≡◌, ◌∙◌}
use mathlib.Core.List.{flat_map}
use lib.ListN.{length}
use Rattle.arith.specs.Lists.{over, from}
use Rattle.rules.specs.Ledger.{order_places}
use Rattle.order_book.proofs.Left.{left_to, left_few, left_nothing, kept_count, kept_book, side_there, places_length}
use Rattle.order_book.proofs.leaving.write_staying.Goals as goal

pub loop-i-init : goal.loop-i-init
unfolding from flat_map over
loop-i-init c = (ap length (sym (left_nothing c.args.left.now)), rw (left_nothing c.args.left.now))

pub keep_order-free-requires : goal.keep_order-free-requires
keep_order-free-requires c =
    let qs = c.args.left.now in
    let b = c.args.book.now in
    let few = left_few qs b c.loop-i.i in
    let side = side_there (flat_map order_places (left_to qs b c.loop-i.i)) b c.loop-i.i (omega (arith, places_length (left_to qs b c.loop-i.i), few)) (omega arith) (omega arith) in
    (omega (arith, few), omega arith, omega arith, rw (c.loop-i.invariant.1, side) (c.requires.3 c.loop-i.i (omega arith)))

pub loop-i-preserved : goal.loop-i-preserved
loop-i-preserved c =
    let a = c.args in
    let qs = a.left.now in (
      c.keep_order-free.ensures.value ∙ kept_count qs a.book.now c.loop-i.i (omega arith) (omega arith) (omega arith) c.loop-i.free c.loop-i.invariant.0,
      c.keep_order-free.ensures.book_after ∙ kept_book qs a.book.now c.loop-i.i (omega arith) (omega arith) (omega arith) c.loop-i.free c.loop-i.book c.loop-i.invariant.0 c.loop-i.invariant.1,
    )

pub returns : goal.returns
returns c =
    let e : c.loop-i.i ≡ c.args.count = omega arith in record { value = rw e at c.loop-i.invariant.0; book_after = rw e at c.loop-i.invariant.1 }
