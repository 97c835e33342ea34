use mathlib.Core.Path.{refl}
use Rattle.arith.proofs.Tests.{asked_true, asked_false}
use Rattle.arith.proofs.Tests.{tests}
use Rattle.rules.specs.Records.{front_of}
use Rattle.codec.proofs.stream.front_record.Goals as goal

pub returns-then-is_empty : goal.returns-then-is_empty
unfolding front_of
returns-then-is_empty c = rw (asked_true c.is_empty.ensures c.if-is_empty.true) refl

pub returns-then-n-eq0 : goal.returns-then-n-eq0
unfolding front_of
returns-then-n-eq0 c = rw (asked_false c.is_empty.ensures c.if-is_empty.false, ← c.u8_or_zero.ensures.0, ← c.u8_or_zero-2.ensures.0, ← c.record_length-n.ensures) (search tests)

pub returns-then-n-bytes : goal.returns-then-n-bytes
unfolding front_of
returns-then-n-bytes c = rw (asked_false c.is_empty.ensures c.if-is_empty.false, ← c.u8_or_zero.ensures.0, ← c.u8_or_zero-2.ensures.0, ← c.record_length-n.ensures) (search tests)

pub returns : goal.returns
unfolding front_of
returns c = rw (asked_false c.is_empty.ensures c.if-is_empty.false, ← c.u8_or_zero.ensures.0, ← c.u8_or_zero-2.ensures.0, ← c.record_length-n.ensures) (search tests)
