use Rattle.std.proofs.Common.{◌≡◌, ◌-◌, ◌&&◌}
use Rattle.arith.specs.Lists.{every, from}
use Rattle.rules.specs.Ledger.{Tables, with_head}
use Rattle.rules.specs.Refusals.{member_sound}
use Rattle.damage.proofs.head.are_members_sound.Given as goal

abbrev pub invariant-loop-m : goal.invariant-loop-m
invariant-loop-m l = (t : Tables) → l.ok && every (member_sound (with_head l.head t)) (from l.m (l.members - l.m)) ≡ every (member_sound (with_head l.head t)) (from 0 l.members)
