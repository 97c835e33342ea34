use native.Mathlib.Omega.{arith}
use mathlib.Core.Path.{◌≡◌, subst}
use mathlib.Core.Bool.{Bool, ◌&&◌}
use mathlib.Core.List.{List, map}
use Prim.Native.Nat.{ℕ, ◌+◌, ◌-◌, ◌≤◌, ◌<◌}
use lib.Dec.{ltb}
use lib.ListN.{length, get_or, drop, length-map, get_or-map}
use Rattle.rules.specs.declared.event.Leg.{Leg}
use Rattle.rules.specs.Header.{rising}
use Rattle.rules.proofs.Rising.{rising_next, rising_end}
use Rattle.proposal_check.specs.Legs.{no_leg, number_of}
use Rattle.proposal_check.proofs.conditions.do_numbers_rise.Goals as goal

one_more : (legs : List Leg) (i : ℕ) (ok : Bool) → 1 ≤ i → i < length legs → ok && rising (drop (i - 1) (map number_of legs)) ≡ rising (map number_of legs)
    → (ok && ltb (get_or legs (i - 1) no_leg).order (get_or legs i no_leg).order) && rising (drop (i + 1 - 1) (map number_of legs)) ≡ rising (map number_of legs)
one_more legs i ok l h e =
    let numbers = map number_of legs in
    let j = i - 1 in
    let here : j + 1 ≡ i = omega arith in
    let there : i + 1 - 1 ≡ j + 1 = omega arith in
    let next = rw (get_or-map number_of legs j no_leg, get_or-map number_of legs (j + 1) no_leg) at (rising_next numbers j ok e (omega (arith, length-map legs number_of))) in
    rw there (subst (λ k. (ok && ltb (get_or legs j no_leg).order (get_or legs k no_leg).order) && rising (drop (j + 1) numbers) ≡ rising numbers) here next)

pub loop-i-preserved : goal.loop-i-preserved
loop-i-preserved c = one_more c.args.legs.now c.loop-i.i c.loop-i.ok (omega arith) c.loop-i-test.true c.loop-i.invariant

pub returns : goal.returns
returns c = rising_end (map number_of c.args.legs.now) (c.loop-i.i - 1) c.loop-i.ok c.loop-i.invariant (omega (arith, length-map c.args.legs.now number_of))
