use mathlib.Core.Path.{◌≡◌}
use mathlib.Core.Bool.{◌&&◌}
use mathlib.Core.List.{map}
use Prim.Native.Nat.{◌-◌}
use lib.ListN.{drop}
use Rattle.rules.specs.Header.{rising}
use Rattle.proposal_check.specs.Legs.{number_of}
use Rattle.proposal_check.proofs.conditions.do_numbers_rise.Given as goal

abbrev pub invariant-loop-i : goal.invariant-loop-i
invariant-loop-i l = l.ok && rising (drop (l.i - 1) (map number_of l.legs)) ≡ rising (map number_of l.legs)
