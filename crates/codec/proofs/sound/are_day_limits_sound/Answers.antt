use Rattle.arith.proofs.Tests.{and_true}
use Rattle.rules.specs.Records.{event_sound}
use Rattle.codec.proofs.sound.are_day_limits_sound.Goals as goal

pub returns : goal.returns
unfolding event_sound
returns c = search and_true
