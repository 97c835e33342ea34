use Prim.Native.Nat.{◌≤◌}
use mathlib.Core.Path.{◌≡◌}
use lib.ListN.{length, drop}
use Rattle.rules.specs.Default.{round}
use Rattle.dealing.proofs.turns.take_turns.Given as goal

abbrev pub invariant-loop-member : goal.invariant-loop-member
invariant-loop-member l = (l.member-index ≤ length l.order) × (length l.received ≡ length l.minima)
    × (round l.minima (drop l.member-index l.order) (record { received = l.received; undealt = l.undealt }) ≡ round l.minima l.order (record { received = l.initial.received; undealt = l.lots }))
