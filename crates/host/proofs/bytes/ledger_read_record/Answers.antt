use Rattle.host.proofs.Answers.{answered}
use Rattle.host.proofs.bytes.ledger_read_record.Goals as goal

pub returns : goal.returns
returns c = answered _ c.read_record_fields.ensures c.reply_of-reply.ensures.0 c.reply_of-reply.ensures.1
