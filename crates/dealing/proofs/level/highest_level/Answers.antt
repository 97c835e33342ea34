use Prim.Native.Nat.{ℕ, ◌<◌, ◌≤◌, ◌+◌, ◌-◌, ◌/◌}
use mathlib.Core.Path.{◌≡◌}
use native.Mathlib.Omega.{arith}
use Rattle.dealing.proofs.Levels.{level_top}
use mathlib.Core.List.{List}
use lib.ListN.{length, get_or, get_or-eq_default}
use Rattle.arith.proofs.Tests.{le_or_lt}
use Rattle.dealing.proofs.level.highest_level.Goals as goal

-- past the end there is 0
all_below : (n : ℕ) (l : List ℕ) → ((j : ℕ) → j < length l → get_or l j 0 ≤ n) → (j : ℕ) → get_or l j 0 ≤ n
all_below n l f j = le_or_lt (length l) j (λ h. rw (get_or-eq_default l 0 h) (omega arith)) (λ h. f j h)

pub returns-then-lots_at_level-lots : goal.returns-then-lots_at_level-lots
returns-then-lots_at_level-lots c =
    let a = c.args in
    let top = c.min-top.ensures in
    let same = level_top a.lots c.largest.result a.minima.now (all_below c.largest.result a.minima.now c.largest.ensures) in
    record { within = omega arith; enough = rw (← same, ← top, ← c.lots_at_level.ensures) c.if-lots_at_level-lots.true; short = λ h. absurd (omega arith) }

pub loop-low-init : goal.loop-low-init
loop-low-init c =
    let top = c.min-top.result in
    let next : top - 1 + 1 ≡ top = omega (arith, c.level_below-low.ensures.0) in (
      omega (arith, c.level_below-low.ensures.0),
      omega (arith, c.min-top.ensures),
      c.level_below-low.ensures.1,
      λ h. rw (next, ← c.lots_at_level.ensures) c.if-lots_at_level-lots.false,
    )

pub loop-low-preserved : goal.loop-low-preserved
loop-low-preserved c = let l = c.loop-low in
    let middle = l.high - (l.high - l.low) / 2 in
    let e : middle - 1 + 1 ≡ middle = omega arith in
    (omega arith, omega arith, l.invariant.2, λ h. rw (e, ← c.lots_at_level-in-loop-low.ensures) c.if-lots_at_level-lots-2.false)

pub returns : goal.returns
returns c = let l = c.loop-low in
    let e : l.low ≡ l.high = omega arith in
    record { within = omega arith; enough = l.invariant.2; short = λ h. rw e (l.invariant.3 (omega arith)) }
