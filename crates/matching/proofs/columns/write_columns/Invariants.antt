use mathlib.Core.Path.{◌≡◌}
use mathlib.Core.List.{◌++◌, map}
use lib.ListN.{length, take, drop}
use Rattle.matching.specs.Ranks.{lots_of, first_rank}
use Rattle.tables.specs.Fit.{orders_in}
use Rattle.matching.proofs.Lows.{PlacedTo}
use Rattle.matching.proofs.columns.write_columns.Given as goal

abbrev pub invariant-loop-i : goal.invariant-loop-i
invariant-loop-i l = (l.left ≡ take l.i (map lots_of (orders_in (length l.initial.left) l.book)) ++ drop l.i l.initial.left) × PlacedTo (first_rank l.o (orders_in (length l.initial.left) l.book)) l.i l.ranks
