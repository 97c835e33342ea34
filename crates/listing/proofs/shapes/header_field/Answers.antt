use Rattle.listing.proofs.FieldPlaces.{fixed_at, past_fixed, holiday_at, limit_at, header_length_lem}
use native.Mathlib.Omega.{arith}
use Rattle.listing.proofs.shapes.header_field.Goals as goal

pub returns-then-i-lt-FIXED_FIELDS : goal.returns-then-i-lt-FIXED_FIELDS
returns-then-i-lt-FIXED_FIELDS c = λ members h. fixed_at _ members _ c.if-i-lt-FIXED_FIELDS.true c.fixed_field.ensures

pub returns-then-i-holidays : goal.returns-then-i-holidays
returns-then-i-holidays c = λ members h. past_fixed _ members _ c.if-i-lt-FIXED_FIELDS.false (holiday_at _ members _ c.if-i-holidays.true)

pub returns : goal.returns
returns c = λ members h. past_fixed _ members _ c.if-i-lt-FIXED_FIELDS.false (limit_at _ members _ c.if-i-holidays.false (omega (arith, h, header_length_lem c.args.holidays members)))
