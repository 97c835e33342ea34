use Rattle.std.proofs.Common.{◌-◌, length}
use Rattle.tables.specs.Lent.{tables_of, SameTables}
use Rattle.journal.proofs.Running.{Runs}
use Rattle.journal.proofs.run.run_records.Given as goal

abbrev pub invariant-loop-n : goal.invariant-loop-n
invariant-loop-n l =
    Runs l.counted_before l.accepted_before (tables_of l.initial.tables) l.bytes l.is_last l.filled l.initial.out l.out
    (tables_of l.tables) l.place l.end l.counted l.accepted l.is_stopped
    × SameTables l.initial.tables l.tables

abbrev pub decreases-loop-n : goal.decreases-loop-n
decreases-loop-n l = length l.bytes - l.place
