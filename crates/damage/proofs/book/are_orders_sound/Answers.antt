use Rattle.std.proofs.Common.{◌≡◌, ◌+◌, ◌-◌, ◌%◌, ◌^◌, ltb, map, sym, ◌∙◌, arith, le-ltb, lt-ltb}
use native.Mathlib.Nat.{sub-zero}
use Rattle.arith.specs.Lists.{from}
use Rattle.arith.proofs.Tests.{asked_true, asked_false}
use Rattle.arith.proofs.Bits.{or_below, falls}
use Rattle.arith.proofs.Scans.{each_next, each_stop, each_end}
use Rattle.rules.specs.Ledger.{side_at}
use Rattle.damage.specs.Orders.{number_at, place_sound, places_sound}
use Rattle.damage.proofs.Numbers.{rises_next, rises_end, rises_distinct}
use Rattle.damage.proofs.book.are_orders_sound.Goals as goal

pub loop-i-init : goal.loop-i-init
unfolding places_sound
loop-i-init c = let a = c.args in (omega arith, rw (sub-zero a.count), rw (sub-zero a.count))

pub returns-then-accepted-number : goal.returns-then-accepted-number
returns-then-accepted-number c =
    let a = c.args in
    let sound = place_sound a.accepted a.members a.span.start.0 a.span.end.0 a.book.now in
    rw (each_stop sound a.count c.loop-i.i (ltb c.loop-i.sides 2) _ c.loop-i.invariant.1 c.loop-i-test.true (rw (le-ltb _ _ c.if-accepted-number.true)))

pub returns-then-not-are_fields_in_range : goal.returns-then-not-are_fields_in_range
returns-then-not-are_fields_in_range c =
    let a = c.args in
    let sound = place_sound a.accepted a.members a.span.start.0 a.span.end.0 a.book.now in
    rw (each_stop sound a.count c.loop-i.i (ltb c.loop-i.sides 2) _ c.loop-i.invariant.1 c.loop-i-test.true
    (rw (lt-ltb _ _ c.if-accepted-number.false, asked_false c.are_fields_in_range.ensures c.if-not-are_fields_in_range.true)))

pub loop-i-preserved : goal.loop-i-preserved
loop-i-preserved c =
    let a = c.args in
    let f = number_at a.book.now in
    let sound = place_sound a.accepted a.members a.span.start.0 a.span.end.0 a.book.now in
    let side = side_at a.book.now c.loop-i.i in
    let here : sound c.loop-i.i ≡ ltb side 2 = rw (lt-ltb _ _ c.if-accepted-number.false, asked_true c.are_fields_in_range.ensures c.if-not-are_fields_in_range.false) in
    let s = (f c.loop-i.i + (2 ^ 64 - c.loop-i.least)) % 2 ^ 64 in
    let rises = falls (f c.loop-i.i) c.loop-i.least s (omega arith) (omega arith) (omega arith) (omega arith) in (
      omega arith,
      rw (or_below 1 c.loop-i.sides side, sym here) (each_next sound a.count c.loop-i.i (ltb c.loop-i.sides 2) _ c.loop-i.invariant.1 c.loop-i-test.true),
      rw (or_below 63 c.loop-i.falls s, rises) (rises_next f a.count c.loop-i.i c.loop-i.least (ltb c.loop-i.falls (2 ^ 63)) _ c.loop-i.invariant.2 c.loop-i-test.true),
    )

pub returns-then-sides-gt-LAST_SIDE : goal.returns-then-sides-gt-LAST_SIDE
returns-then-sides-gt-LAST_SIDE c =
    let a = c.args in
    let sound = place_sound a.accepted a.members a.span.start.0 a.span.end.0 a.book.now in
    let all = each_end sound a.count c.loop-i.i (ltb c.loop-i.sides 2) _ c.loop-i.invariant.1 c.loop-i-test.false in
    rw (sym all, le-ltb _ _ c.if-sides-gt-LAST_SIDE.true)

pub returns-then-falls-lt-TOP_BIT : goal.returns-then-falls-lt-TOP_BIT
returns-then-falls-lt-TOP_BIT c =
    let a = c.args in
    let f = number_at a.book.now in
    let sound = place_sound a.accepted a.members a.span.start.0 a.span.end.0 a.book.now in
    let all = each_end sound a.count c.loop-i.i (ltb c.loop-i.sides 2) _ c.loop-i.invariant.1 c.loop-i-test.false in
    let rise = rises_end f a.count c.loop-i.i c.loop-i.least (ltb c.loop-i.falls (2 ^ 63)) _ c.loop-i.invariant.2 c.loop-i-test.false in
    rw (sym all, lt-ltb c.loop-i.sides 2 (omega arith), rises_distinct 0 (map f (from 0 a.count)) (sym rise ∙ lt-ltb _ _ c.if-falls-lt-TOP_BIT.true))

pub returns : goal.returns
returns c =
    let a = c.args in
    let sound = place_sound a.accepted a.members a.span.start.0 a.span.end.0 a.book.now in
    let all = each_end sound a.count c.loop-i.i (ltb c.loop-i.sides 2) _ c.loop-i.invariant.1 c.loop-i-test.false in
    rw (sym all, lt-ltb c.loop-i.sides 2 (omega arith)) c.is_none_repeated.ensures
