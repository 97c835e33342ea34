use mathlib.Core.Path.{refl}
use Rattle.arith.proofs.Tests.{and_true}
use Rattle.rules.specs.Records.{event_sound}
use Rattle.codec.proofs.sound.is_submit_sound.Goals as goal

pub returns : goal.returns
unfolding event_sound
returns c = rw (and_true, c.are_lots_sound-lots.ensures, c.is_price_sound-price.ensures) refl
