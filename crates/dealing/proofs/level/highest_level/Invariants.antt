use Prim.Native.Nat.{◌+◌, ◌-◌, ◌≤◌, ◌<◌}
use Rattle.rules.specs.Default.{sum_of}
use Rattle.dealing.specs.Levels.{at_level}
use Rattle.dealing.proofs.level.highest_level.Given as goal

abbrev pub invariant-loop-low : goal.invariant-loop-low
invariant-loop-low l = (l.low ≤ l.high) × (l.high ≤ l.lots) × (sum_of (at_level l.low l.minima) ≤ l.lots) × (l.high < l.lots → l.lots < sum_of (at_level (l.high + 1) l.minima))

abbrev pub decreases-loop-low : goal.decreases-loop-low
decreases-loop-low l = l.high - l.low
