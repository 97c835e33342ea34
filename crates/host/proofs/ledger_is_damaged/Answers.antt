use Rattle.host.specs.Sent.{damage_number}
use Rattle.host.proofs.ledger_is_damaged.Goals as goal

pub returns-then-is_unsound : goal.returns-then-is_unsound
unfolding damage_number
returns-then-is_unsound c = rw (← c.is_unsound.ensures) (search c.if-is_unsound.true)

pub returns : goal.returns
unfolding damage_number
returns c = rw (← c.is_unsound.ensures) (search c.if-is_unsound.false)
