use mathlib.Core.Path.{refl}
use Rattle.host.proofs.bytes.ledger_front_record.Goals as goal

pub returns : goal.returns
returns c = rw (← c.front_record.ensures, c.reply_of_front-reply.ensures.0, c.reply_of_front-reply.ensures.1) refl
