use Rattle.codec.proofs.Fields.{leg_read}
use Rattle.codec.proofs.legs.leg_at.Goals as goal

pub returns : goal.returns
returns c = rw (c.u32_at-order.ensures.0, c.u16_at-lots.ensures.0, c.u32_at-price.ensures.0) (leg_read _ _)
