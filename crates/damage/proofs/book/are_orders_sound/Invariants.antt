use Rattle.std.proofs.Common.{◌≡◌, ◌-◌, ◌^◌, ◌≤◌, ◌&&◌, ltb, map}
use Rattle.arith.specs.Lists.{every, from}
use Rattle.damage.specs.Orders.{number_at, place_sound, places_sound}
use Rattle.damage.proofs.Numbers.{rises_from}
use Rattle.damage.proofs.book.are_orders_sound.Given as goal

abbrev pub invariant-loop-i : goal.invariant-loop-i
invariant-loop-i l = (l.least ≤ l.accepted)
    × (ltb l.sides 2 && every (place_sound l.accepted l.members l.span.start.0 l.span.end.0 l.book) (from l.i (l.count - l.i)) ≡ places_sound l.accepted l.members l.span.start.0
    l.span.end.0 l.book l.count) × (ltb l.falls (2 ^ 63) && rises_from l.least (map (number_at l.book) (from l.i (l.count - l.i))) ≡ rises_from 0 (map (number_at l.book) (from 0 l.count)))
