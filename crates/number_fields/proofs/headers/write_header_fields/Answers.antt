use Rattle.number_fields.proofs.HeaderOutcomes.{write_header_row_short, write_many_members, write_many_holidays, write_header_row}
use Rattle.number_fields.proofs.headers.write_header_fields.Goals as goal

pub returns-then-row-lt-HEADER_FIELDS : goal.returns-then-row-lt-HEADER_FIELDS
returns-then-row-lt-HEADER_FIELDS c = let a = c.args in write_header_row_short a.row.now a.out.now c.if-row-lt-HEADER_FIELDS.true

pub returns-then-row-gt-MOST_MEMBERS : goal.returns-then-row-gt-MOST_MEMBERS
returns-then-row-gt-MOST_MEMBERS c = let a = c.args in write_many_members a.row.now a.out.now c.if-row-lt-HEADER_FIELDS.false c.if-row-gt-MOST_MEMBERS.true

pub returns-then-row-gt-MOST_HOLIDAYS : goal.returns-then-row-gt-MOST_HOLIDAYS
returns-then-row-gt-MOST_HOLIDAYS c = let a = c.args in write_many_holidays a.row.now a.out.now c.if-row-lt-HEADER_FIELDS.false c.if-row-gt-MOST_HOLIDAYS.true

pub returns : goal.returns
returns c =
    let a = c.args in write_header_row a.row.now a.out.now c.if-row-lt-HEADER_FIELDS.false c.header_in.ensures c.write_header.ensures
