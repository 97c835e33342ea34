use mathlib.Core.Path.{refl}
use Rattle.codec.proofs.sound.is_leg_sound.Goals as goal

pub returns : goal.returns
returns c = rw (c.are_lots_sound-lots.ensures, c.is_price_sound-price.ensures) refl
