use native.Mathlib.Omega.{arith}
use mathlib.Core.Path.{◌∙◌}
use Rattle.record_kinds.specs.Numbers.{most_numbers}
use Rattle.codec.proofs.Fields.{fields_inside, fields_cut, fields_of_kind_lem, event_read}
use Rattle.codec.proofs.read.fields_of.Goals as goal

pub returns-then-bytes-record_length : goal.returns-then-bytes-record_length
returns-then-bytes-record_length c = fields_cut _ c.u8_or_zero-kind.ensures.0 c.u8_or_zero-legs.ensures.0 c.record_length.ensures c.if-bytes-record_length.true

pub record_numbers-numbers-requires : goal.record_numbers-numbers-requires
record_numbers-numbers-requires c = (c.u8_or_zero-kind.ensures.0, omega (arith, c.if-bytes-record_length.false, c.record_length.ensures, fields_inside c.u8_or_zero-kind.result c.u8_or_zero-legs.result))

pub returns : goal.returns
returns c =
    let kind = c.u8_or_zero-kind.ensures.0 in
    c.event_of.ensures ∙ (event_read _ _ most_numbers kind c.record_numbers-numbers.ensures ∙ fields_of_kind_lem _ kind c.u8_or_zero-legs.ensures.0 c.record_length.ensures c.if-bytes-record_length.false)
