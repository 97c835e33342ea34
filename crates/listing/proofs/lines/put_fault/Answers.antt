use native.Mathlib.Omega.{arith}
use Rattle.listing_words.specs.Words.{fault_words}
use Rattle.listing.proofs.Goings.{fault_most}
use Rattle.listing.proofs.lines.put_fault.Goals as goal

pub overflow_add-byte : goal.overflow_add-byte
overflow_add-byte c = omega (
  arith,
  fault_most c.args.bytes.now c.args.at
      c.verdict_of-verdict.result (omega arith),
  c.fault_place.ensures,
)

pub returns : goal.returns
unfolding fault_words
returns c =
    rw (
      ← c.verdict_of-verdict.ensures,
      ← c.range_of-range.ensures,
      ←
          c.width_of-size.ensures.0,
      ← c.number_at-number.ensures.0,
      ←
          c.fault_place.ensures,
    ) c.put_fault_text.ensures
