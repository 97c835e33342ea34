use Rattle.std.proofs.Common.{length, ◌≤◌, MatchOption}
use Rattle.matching.specs.Ranks.{NoneRanked, BestPlace}
use Rattle.matching.proofs.Going.{Going, Next}
use Rattle.matching.proofs.levels.match_levels.Given as goal

abbrev pub invariant-orders : goal.invariant-orders
invariant-orders l = Going l.o l.book (length l.fn.left) l.initial.deals l.left l.ranks l.lows l.deals l.wanted.0 l.k ×
    Next l.o l.book (length l.fn.left) l.left l.place l.level × (l.wanted.0 ≤ l.initial.wanted.0) × (l.initial.k ≤ l.k)

abbrev pub decreases-orders : goal.decreases-orders
decreases-orders l = l.wanted.0

abbrev pub invariant-levels : goal.invariant-levels
invariant-levels l = Going l.o l.book (length l.fn.left) l.initial.deals l.left l.ranks l.lows l.deals l.wanted.0 l.k ×
    MatchOption l.best (NoneRanked l.lows) (BestPlace l.lows)

abbrev pub decreases-levels : goal.decreases-levels
decreases-levels l = l.wanted.0
