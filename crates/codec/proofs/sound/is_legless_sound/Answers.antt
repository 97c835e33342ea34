use mathlib.Core.Path.{refl}
use Rattle.arith.proofs.Tests.{and_true}
use Rattle.codec.proofs.PlacedLegs.{proposal_legless}
use Rattle.rules.specs.Records.{event_sound}
use Rattle.codec.proofs.sound.is_legless_sound.Goals as goal

pub returns-in-Submit : goal.returns-in-Submit
returns-in-Submit c = rw c.in-Submit.is c.is_submit_sound.ensures

pub returns-in-Cancel : goal.returns-in-Cancel
returns-in-Cancel c = rw c.in-Cancel.is c.is_cancel_sound.ensures

pub returns-in-DayLimits : goal.returns-in-DayLimits
unfolding event_sound
returns-in-DayLimits c = rw c.in-DayLimits.is c.are_day_limits_sound.ensures

pub returns-in-Proposal : goal.returns-in-Proposal
returns-in-Proposal c = rw c.in-Proposal.is (proposal_legless _ _)

pub returns-in-Default : goal.returns-in-Default
unfolding event_sound
returns-in-Default c = rw (c.in-Default.is, and_true) refl

pub returns-in-CloseOut : goal.returns-in-CloseOut
unfolding event_sound
returns-in-CloseOut c = rw c.in-CloseOut.is c.is_close_out_sound.ensures

pub returns-in-CloseOfDay : goal.returns-in-CloseOfDay
unfolding event_sound
returns-in-CloseOfDay c = rw (c.in-CloseOfDay.is, and_true) refl
