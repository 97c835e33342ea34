use native.Mathlib.Omega.{arith}
use Rattle.tables.specs.Lent.{tables_of}
use Rattle.journal.proofs.LastLine.{records_counts, read_counts, stopped_counts, waits, all_printed_lem, last_rank, read_line, stopped_line}
use Rattle.journal.proofs.advancing.advance.Goals as goal

pub returns-then-out-filled-lt-ROOM-clause-advanced : goal.returns-then-out-filled-lt-ROOM-clause-advanced
returns-then-out-filled-lt-ROOM-clause-advanced c = waits _ _ _ _ _ _ c.requires.2 c.if-out-filled-lt-ROOM.true c.standing.ensures

pub run_records-requires : goal.run_records-requires
run_records-requires c =
    let c' = records_counts c.in-Records.is c.requires.0 in
    (c'.0, omega (arith, c'.1, c.requires.1), c.requires.2, c.requires.4)

pub end_at-requires : goal.end_at-requires
end_at-requires c =
    let given = c.requires in (
      omega (arith, c.if-out-filled-lt-ROOM.false, given.2),
      (read_counts c.in-Read.is given.0).0,
      rw c.head.ensures given.3,
    )

pub end_at-requires-in-Stopped : goal.end_at-requires-in-Stopped
end_at-requires-in-Stopped c =
    let given = c.requires in (
      omega (arith, c.if-out-filled-lt-ROOM.false, given.2),
      (stopped_counts c.in-Stopped.is given.0).0,
      rw c.head-in-Stopped.ensures given.3,
    )

pub returns-in-Header-clause-advanced : goal.returns-in-Header-clause-advanced
returns-in-Header-clause-advanced c = rw c.in-Header.is c.begin.ensures.begun

pub returns-in-Records-clause-advanced : goal.returns-in-Records-clause-advanced
returns-in-Records-clause-advanced c = rw c.in-Records.is c.run_records.ensures.records_run

pub returns-in-Read-clause-advanced : goal.returns-in-Read-clause-advanced
returns-in-Read-clause-advanced c =
    read_line (tables_of c.args.tables.now) _ _ _ _ _ _ _ (omega (arith, c.if-out-filled-lt-ROOM.false, c.requires.2)) c.in-Read.is
    (rw c.head.ensures at c.end_at.ensures)

pub returns-in-Stopped-clause-advanced : goal.returns-in-Stopped-clause-advanced
returns-in-Stopped-clause-advanced c =
    stopped_line (tables_of c.args.tables.now) _ _ _ _ _ _ _ (omega (arith, c.if-out-filled-lt-ROOM.false, c.requires.2)) c.in-Stopped.is
    (rw c.head-in-Stopped.ensures at c.end_at-in-Stopped.ensures)

pub returns-in-ReadToEnd-clause-advanced : goal.returns-in-ReadToEnd-clause-advanced
returns-in-ReadToEnd-clause-advanced c =
    all_printed_lem _ _ _ _ _ _ c.requires.2 (last_rank c.in-ReadToEnd.is) c.standing-in-ReadToEnd.ensures
