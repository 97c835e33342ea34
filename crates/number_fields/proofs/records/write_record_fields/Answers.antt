use Rattle.number_fields.proofs.RecordOutcomes.{write_short, write_none, few_in, write_event}
use Rattle.number_fields.proofs.records.write_record_fields.Goals as goal

pub returns-then-row-lt-RECORD_FIELDS : goal.returns-then-row-lt-RECORD_FIELDS
returns-then-row-lt-RECORD_FIELDS c = let a = c.args in write_short a.members a.row.now a.out.now c.if-row-lt-RECORD_FIELDS.true

pub legs_in-legs-requires : goal.legs_in-legs-requires
legs_in-legs-requires c =
    let a = c.args in
    (c.if-row-lt-RECORD_FIELDS.false, rw c.leg_count.ensures (few_in a.members a.row.now a.out.now c.event_in.ensures c.if-row-lt-RECORD_FIELDS.false c.in-Some.is))

pub returns-in-Some : goal.returns-in-Some
returns-in-Some c =
    let a = c.args in
    write_event a.members a.row.now a.out.now c.event_in.ensures c.if-row-lt-RECORD_FIELDS.false c.in-Some.is c.leg_count.ensures c.legs_in-legs.ensures c.write_record.ensures

pub returns-in-None : goal.returns-in-None
returns-in-None c =
    let a = c.args in
    write_none a.members a.row.now a.out.now c.event_in.ensures c.if-row-lt-RECORD_FIELDS.false c.in-None.is
