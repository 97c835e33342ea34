use mathlib.Core.Path.{ap, ◌∙◌}
use Rattle.header.specs.declared.reader.ReadHeader.{ReadHeader}
use Rattle.std.specs.Prelude.{Ok}
use Rattle.header.proofs.Readings.{none_read, begins, as_read, few_holidays, few_members, holiday_most, limit_most, as_listed}
use Rattle.number_fields.specs.HeaderFields.{with_header}
use Rattle.number_fields.proofs.HeaderOutcomes.{read_header_short, read_header_none, read_header_whole}
use Rattle.number_fields.proofs.headers.read_header_fields.Goals as goal

pub returns-then-row-lt-HEADER_FIELDS : goal.returns-then-row-lt-HEADER_FIELDS
returns-then-row-lt-HEADER_FIELDS c = let a = c.args in read_header_short a.bytes.now a.row.now c.if-row-lt-HEADER_FIELDS.true

pub returns-in_default : goal.returns-in_default
returns-in_default c =
    let a = c.args in
    read_header_none a.bytes.now a.row.now c.if-row-lt-HEADER_FIELDS.false (none_read a.bytes.now c.in_default.ensures)

pub shared_ref_as_front-put_header : goal.shared_ref_as_front-put_header
shared_ref_as_front-put_header c = few_holidays c.args.bytes.now _ c.in-Some.ensures

pub shared_ref_as_front-put_header-2 : goal.shared_ref_as_front-put_header-2
shared_ref_as_front-put_header-2 c = few_members c.args.bytes.now _ c.in-Some.ensures

pub put_header-requires : goal.put_header-requires
put_header-requires c =
    let s = c.args.bytes.now in
    (c.if-row-lt-HEADER_FIELDS.false, holiday_most s _ c.in-Some.ensures, limit_most s _ c.in-Some.ensures)

pub returns : goal.returns
returns c =
    let a = c.args in
    let s = a.bytes.now in
    let r = c.in-Some.ensures in
    read_header_whole s a.row.now c.if-row-lt-HEADER_FIELDS.false (begins s _ r) _ _ (ap (λ (x : ReadHeader). Ok x.length) (as_read s _ r))
    (c.put_header.ensures ∙ ap (λ h. with_header h a.row.now) (as_listed s _ r))
