use Prim.Native.Nat.{◌≤◌}
use Rattle.tables.specs.Lent.{tables_of, SameTables}
use Rattle.submit.proofs.Lines.{Booking}
use Rattle.submit.proofs.deals.book_deals.Given as goal

abbrev pub invariant-loop-k : goal.invariant-loop-k
invariant-loop-k l = (l.k ≤ l.count) × Booking l.o l.deals l.count (tables_of l.initial.tables) l.k (tables_of l.tables) × SameTables l.initial.tables l.tables
