use native.Mathlib.Omega.{arith}
use Rattle.number_fields.proofs.RecordOutcomes.{read_short, read_unsound, few_read, read_sound}
use Rattle.number_fields.proofs.records.read_record_fields.Goals as goal

pub returns-then-row-lt-RECORD_FIELDS : goal.returns-then-row-lt-RECORD_FIELDS
returns-then-row-lt-RECORD_FIELDS c = let a = c.args in read_short a.members a.bytes.now a.row.now c.if-row-lt-RECORD_FIELDS.true

pub put_event-requires : goal.put_event-requires
put_event-requires c =
    let a = c.args in
    let few = few_read a.members a.bytes.now a.row.now c.read_record.ensures c.in-Some.is in
    (c.if-row-lt-RECORD_FIELDS.false, few, omega arith)

pub returns-in-Some : goal.returns-in-Some
returns-in-Some c =
    let a = c.args in
    read_sound a.members a.bytes.now a.row.now c.read_record.ensures c.in-Some.is c.if-row-lt-RECORD_FIELDS.false c.read_legs.ensures c.put_event.ensures

pub returns-in-None : goal.returns-in-None
returns-in-None c =
    let a = c.args in
    read_unsound a.members a.bytes.now a.row.now c.read_record.ensures c.if-row-lt-RECORD_FIELDS.false c.in-None.is
